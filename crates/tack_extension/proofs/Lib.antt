pub mod Steps
pub mod Reading
pub mod RoundTrip
pub mod BreakSignatures
pub mod Writing
