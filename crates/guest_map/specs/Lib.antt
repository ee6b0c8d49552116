pub mod Blank
pub mod Handles
pub mod Laws
pub mod Regions
pub mod Slots
