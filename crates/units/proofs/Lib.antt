pub mod Tests
pub mod Totals
pub mod Members
pub mod Facts
pub mod Scanning
pub mod Columns
