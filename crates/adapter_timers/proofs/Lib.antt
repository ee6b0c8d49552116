pub mod Cancelled
pub mod Coming
pub mod Earliest
pub mod Entries
pub mod FirstTurn
pub mod InOrder
pub mod Lives
