pub mod Hashes
pub mod Pins
pub mod SeenMarks
