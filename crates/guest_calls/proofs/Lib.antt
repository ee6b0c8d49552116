pub mod Judged
pub mod Wanting
