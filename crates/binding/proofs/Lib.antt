pub mod Bursts
pub mod Following
pub mod Acts
pub mod Keeping
