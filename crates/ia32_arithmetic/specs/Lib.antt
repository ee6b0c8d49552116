pub mod Widths
pub mod Bits
pub mod Flags
pub mod Sums
pub mod Shifts
pub mod Products
