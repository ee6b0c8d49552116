pub mod AtOnce
pub mod Fetching
pub mod Held
pub mod Kept
pub mod Sets
pub mod Steps
