pub mod Words
pub mod Fields
pub mod Instructions
pub mod Immediates
pub mod Offsets
pub mod CallBytes
pub mod JumpBytes
