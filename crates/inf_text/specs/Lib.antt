pub mod Names
pub mod Sections
pub mod Entries
pub mod Characters
pub mod Quotes
pub mod Joining
pub mod Reading
pub mod Layout
