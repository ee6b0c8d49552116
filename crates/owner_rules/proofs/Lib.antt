pub mod Addresses
pub mod Sums
pub mod Wanting
