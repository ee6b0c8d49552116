pub mod Operations
pub mod Jumps
pub mod Templates
