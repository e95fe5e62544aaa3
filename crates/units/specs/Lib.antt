pub mod Lists
pub mod Lots
pub mod Text
pub mod Examples
