pub mod Moved
pub mod Values
pub mod Lines
