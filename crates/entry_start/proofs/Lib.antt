pub mod PutWords
pub mod StartSpace
