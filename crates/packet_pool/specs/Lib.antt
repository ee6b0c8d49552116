pub mod DescriptorBytes
pub mod KeptLive
pub mod KeptPools
pub mod Laws
pub mod LiveMoves
pub mod LiveSet
