pub mod PoolOutcomes
pub mod Totals
