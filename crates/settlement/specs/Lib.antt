pub mod Moves
pub mod Losing
pub mod Examples
