pub mod Passed
pub mod Shown
pub mod BreakBits
pub mod Floors
