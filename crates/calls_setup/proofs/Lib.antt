pub mod BlockLemmas
pub mod DigitLemmas
pub mod FindLemmas
pub mod GivenLemmas
pub mod NameLemmas
pub mod ReadLemmas
pub mod Readable
pub mod WordLemmas
