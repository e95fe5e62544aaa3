pub mod Order
pub mod Trading
pub mod Losses
pub mod Examples
