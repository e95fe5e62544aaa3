pub mod Rank
pub mod Round
pub mod Lots
pub mod Setter
pub mod Method
pub mod Examples
