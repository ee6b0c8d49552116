pub mod Entries
pub mod Captures
pub mod Reading
