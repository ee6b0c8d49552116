pub mod May
pub mod Settling
pub mod Unasked
pub mod Early
pub mod Named
pub mod Handed
pub mod Taken
pub mod Begun
