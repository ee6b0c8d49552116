pub mod Coming
pub mod Reaching
pub mod Settling
pub mod Silencing
