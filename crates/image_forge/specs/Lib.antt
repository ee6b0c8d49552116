pub mod Forged
