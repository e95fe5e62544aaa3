pub mod Plain
pub mod NeverRefused
