pub mod Changes
pub mod Tallies
pub mod Kept
pub mod Which
