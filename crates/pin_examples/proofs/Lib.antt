pub mod Model
pub mod Main
pub mod Two
pub mod Report
