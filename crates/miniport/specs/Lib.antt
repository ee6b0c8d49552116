pub mod Charges
pub mod Free
pub mod Replies
pub mod Steps
pub mod Waiting
