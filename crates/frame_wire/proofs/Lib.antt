pub mod Numbers
pub mod Headers
pub mod Loop
pub mod Fronts
pub mod Files
pub mod Returns
