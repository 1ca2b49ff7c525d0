pub mod OneTurn
pub mod Tallies
