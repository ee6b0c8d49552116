pub mod Shifts
pub mod Quotients
pub mod Stack
pub mod Copies
