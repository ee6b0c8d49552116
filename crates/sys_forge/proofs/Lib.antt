pub mod Emission
pub mod Differing
pub mod RowLaws
pub mod Settling
pub mod Planning
pub mod Excluded
pub mod One
