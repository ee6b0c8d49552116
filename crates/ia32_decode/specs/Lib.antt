pub mod Operands
pub mod Rows
pub mod Opcodes
pub mod Prefixes
pub mod Decoding
pub mod Encoding
pub mod Permitted
