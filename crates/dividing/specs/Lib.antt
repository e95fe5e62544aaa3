pub mod Columns
pub mod Group
pub mod Examples
