pub mod Holds
pub mod Find
pub mod Read
pub mod Store
pub mod Remove
