pub mod Chain
pub mod Gathering
