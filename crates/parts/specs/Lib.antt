pub mod Key
pub mod Execution
pub mod Parts
pub mod Table
pub mod Visible
pub mod Narrowed
pub mod Arranged
pub mod Examples
