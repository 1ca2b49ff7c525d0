pub mod Spans
pub mod SpansTwo
pub mod Outcomes
pub mod Ignored
