pub mod Tests
pub mod Options
pub mod Parts
pub mod Numbers
pub mod Equal
pub mod Search
pub mod Runs
pub mod Words
