pub mod Endings
pub mod Several
