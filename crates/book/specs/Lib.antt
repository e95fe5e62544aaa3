pub mod Sound
pub mod Change
pub mod Refusal
pub mod Answer
pub mod Lookup
pub mod Securities
pub mod Examples
