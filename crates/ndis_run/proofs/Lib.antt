pub mod EndsLaws
pub mod Forging
pub mod Judging
pub mod Lines
pub mod LogPieces
pub mod Logging
pub mod Pieces
pub mod Utf16
