pub mod Cutting
pub mod Numbers
pub mod Others
pub mod Row
