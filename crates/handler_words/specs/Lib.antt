pub mod Given
pub mod Ready
pub mod Asked
pub mod Laws
