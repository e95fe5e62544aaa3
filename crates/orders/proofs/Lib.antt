pub mod Interests
pub mod KindTests
