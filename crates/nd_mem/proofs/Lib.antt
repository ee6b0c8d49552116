pub mod Laws
pub mod Mapped
pub mod Order
pub mod RegionList
pub mod Runs
pub mod SpaceLaws
