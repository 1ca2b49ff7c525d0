pub mod OneKey
pub mod SecondTack
