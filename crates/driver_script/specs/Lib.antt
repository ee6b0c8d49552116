pub mod Keywords
pub mod Forms
pub mod Items
pub mod Statements
pub mod Scripts
pub mod Reading
pub mod Sound
