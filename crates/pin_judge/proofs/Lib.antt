pub mod Learnt
pub mod Steps
pub mod Judged
