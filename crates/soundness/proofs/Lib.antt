pub mod Tests
pub mod Joins
pub mod Parts
