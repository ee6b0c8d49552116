pub mod Held
pub mod Kinds
pub mod Lines
pub mod Logs
pub mod Parties
