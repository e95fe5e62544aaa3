pub mod Marks
pub mod Counting
pub mod Ranges
pub mod Gathering
