pub mod Budgets
pub mod Instructions
pub mod Returns
pub mod Standing
