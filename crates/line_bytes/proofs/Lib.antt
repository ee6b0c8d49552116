pub mod OctetLaws
pub mod TableLaws
pub mod PutLaws
pub mod Excluded
pub mod One
