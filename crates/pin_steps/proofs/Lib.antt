pub mod Tacks
pub mod Floors
pub mod ActivePins
pub mod PinnedTests
pub mod LongerPins
pub mod BrokenKeys
pub mod BreakParts
