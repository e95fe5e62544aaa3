pub mod Numbers
pub mod Forms
pub mod Rows
pub mod Orders
pub mod Records
pub mod Settling
pub mod Executions
pub mod Reading
mod Fours
pub mod Pasting
pub mod Filling
