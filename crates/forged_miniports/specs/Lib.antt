pub mod Kinds
pub mod Miniports
