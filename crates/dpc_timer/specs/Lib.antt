pub mod ClockState
pub mod Laws
pub mod Turns
