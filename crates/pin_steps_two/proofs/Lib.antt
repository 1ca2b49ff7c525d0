pub mod ShownTacks
pub mod OwnPins
pub mod Settled
