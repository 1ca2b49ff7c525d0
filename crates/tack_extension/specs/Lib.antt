pub mod Extension
pub mod Tack
pub mod Answers
pub mod Steps
