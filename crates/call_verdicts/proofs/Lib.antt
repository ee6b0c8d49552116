pub mod Addresses
pub mod Chains
pub mod Numbers
pub mod Outcomes
pub mod Rows
pub mod Walks
pub mod Answered
