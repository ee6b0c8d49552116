pub mod Names
pub mod Parts
pub mod Registers
pub mod Mnemonics
pub mod Values
pub mod Arguments
pub mod Statements
pub mod Lines
