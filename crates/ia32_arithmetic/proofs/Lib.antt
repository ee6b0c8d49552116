pub mod Sets
pub mod Rotations
