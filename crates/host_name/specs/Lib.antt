pub mod Name
pub mod Folding
pub mod Scan
