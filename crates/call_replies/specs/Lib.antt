pub mod Wanting
pub mod Undo
