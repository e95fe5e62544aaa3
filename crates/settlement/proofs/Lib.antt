pub mod Moving
pub mod Places
pub mod Losing
pub mod Passing
pub mod Closing
pub mod Writing
