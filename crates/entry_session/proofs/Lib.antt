pub mod Answering
pub mod Calling
pub mod Charging
pub mod Entering
pub mod Leaving
pub mod Reaching
pub mod Replying
pub mod Turning
