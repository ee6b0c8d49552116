pub mod Replying
pub mod Session
