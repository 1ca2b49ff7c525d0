pub mod Decimal
pub mod Pieces
pub mod Lines
pub mod Nights
pub mod Respelled
