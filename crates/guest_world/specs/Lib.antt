pub mod Timers
pub mod Worlds
