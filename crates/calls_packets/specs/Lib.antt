pub mod Wants
pub mod Lengths
pub mod Described
