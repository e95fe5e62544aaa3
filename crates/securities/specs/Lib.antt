pub mod Calls
pub mod Apart
pub mod BookBefore
pub mod EntryBefore
pub mod TakeBefore
pub mod LadderBefore
pub mod OneSecurity
pub mod Examples
