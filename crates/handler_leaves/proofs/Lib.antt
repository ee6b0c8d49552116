pub mod Contexts
pub mod Ending
