pub mod Keys
pub mod Paragraphs
pub mod Seeing
pub mod Table
pub mod Reading
pub mod Keeping
pub mod Narrowing
pub mod Arranging
