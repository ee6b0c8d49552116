pub mod Costs
pub mod Memory
pub mod Places
pub mod Returns
