pub mod Add
pub mod Reduce
pub mod Plan
pub mod Examples
