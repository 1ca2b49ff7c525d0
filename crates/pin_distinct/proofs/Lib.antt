pub mod SlotPairs
pub mod Hashing
pub mod SeenBits
pub mod SeenMarks
pub mod Doubles
