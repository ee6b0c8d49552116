pub mod Behind
pub mod Cancels
pub mod Settling
