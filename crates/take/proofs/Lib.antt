pub mod Answers
pub mod Deciding
pub mod Committing
pub mod Idle
pub mod Memory
