pub mod Answering
pub mod Waking
