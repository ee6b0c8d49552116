pub mod Forward
pub mod Wanted
