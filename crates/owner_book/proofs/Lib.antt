pub mod Adapters
pub mod Admits
pub mod Contexts
pub mod Rooms
pub mod Starts
pub mod TailSteps
