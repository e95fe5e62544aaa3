pub mod Codec
pub mod Record
pub mod Names
pub mod Execution
pub mod Examples
