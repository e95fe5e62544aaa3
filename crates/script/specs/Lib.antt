pub mod Text
pub mod Field
pub mod Command
pub mod Examples
