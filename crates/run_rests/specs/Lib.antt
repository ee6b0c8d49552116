pub mod Drivers
pub mod Entering
pub mod Laws
pub mod Moments
pub mod Order
pub mod Vain
