pub mod Begun
pub mod Behind
pub mod Dues
pub mod Words
