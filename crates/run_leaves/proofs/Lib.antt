pub mod Aborting
pub mod Drawing
pub mod Returning
pub mod Rows
pub mod Writing
