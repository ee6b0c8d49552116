pub mod Laws
pub mod LockMoves
pub mod LockState
pub mod LockTable
