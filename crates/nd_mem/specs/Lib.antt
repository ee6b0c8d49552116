pub mod Cell
pub mod Laws
pub mod Mapped
pub mod Regions
pub mod Space
