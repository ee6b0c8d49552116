pub mod Calls
pub mod Changed
pub mod KeptMoves
pub mod KeptRow
pub mod LawLemmas
pub mod Places
pub mod Sound
