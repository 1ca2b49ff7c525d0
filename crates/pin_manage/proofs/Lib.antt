pub mod Deleted
pub mod Looked
pub mod Started
