-- definitions
pub mod Codes
pub mod Exact
pub mod Names
pub mod Fields
-- laws, with their proofs
pub mod ExactLaws
pub mod NumberLaws
pub mod PrintLaws
pub mod FieldLaws
pub mod ValueLaws
pub mod NameLaws
pub mod RangeLaws
