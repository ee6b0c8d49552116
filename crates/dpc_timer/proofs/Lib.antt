pub mod Armed
pub mod InOrder
pub mod Queue
