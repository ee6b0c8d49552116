pub mod Moved
pub mod Places
pub mod Faults
pub mod Behind
pub mod Chosen
