pub mod Known
pub mod Answered
