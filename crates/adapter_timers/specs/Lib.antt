pub mod Cancels
pub mod Due
