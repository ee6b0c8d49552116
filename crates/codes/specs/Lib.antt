-- definitions
pub mod Codes
pub mod Numbers
pub mod Exact
pub mod Readings
-- laws, with their proofs
pub mod ExactLaws
pub mod LengthLaws
pub mod NumberLaws
pub mod ReadingLaws
