pub mod Walk
pub mod Stretch
pub mod Credit
pub mod Ready
pub mod Sharing
