pub mod Reasons
pub mod Standing
pub mod Assembly
pub mod Moved
pub mod Places
pub mod Whole
pub mod Excluding
pub mod One
