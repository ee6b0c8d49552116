pub mod Rows
pub mod KeptRows
pub mod Removed
