pub mod Conversion
pub mod RoundTrip
pub mod Plain
pub mod Examples
