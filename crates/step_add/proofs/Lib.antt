pub mod Meaning
pub mod Stored
pub mod Added
pub mod Cut
