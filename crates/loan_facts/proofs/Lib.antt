pub mod Pools
pub mod Rows
pub mod Made
pub mod Lists
pub mod Effects
pub mod Course
