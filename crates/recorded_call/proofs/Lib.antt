pub mod Fields
pub mod Bytes
pub mod Taken
pub mod CutOff
pub mod Prefix
pub mod RoundTrip
