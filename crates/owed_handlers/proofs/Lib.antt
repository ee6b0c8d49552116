pub mod AtPoint
pub mod Found
pub mod NextMoment
pub mod Some
pub mod Stands
