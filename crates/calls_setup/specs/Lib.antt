pub mod Adapters
pub mod Blocks
pub mod Digits
pub mod Keywords
pub mod Values
pub mod Whole
