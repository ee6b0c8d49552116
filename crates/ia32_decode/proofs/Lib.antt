pub mod Chosen
pub mod EncodedParts
pub mod Encoded
pub mod Lengths
pub mod Parts
pub mod PermittedLaws
pub mod PrefixLaws
pub mod Told
