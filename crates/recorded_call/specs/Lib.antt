pub mod RecordedCall
pub mod Fronts
