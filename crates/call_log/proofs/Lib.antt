pub mod Behind
pub mod Found
pub mod Held
pub mod Inverse
pub mod Laws
pub mod Printed
pub mod Ranges
pub mod Whole
