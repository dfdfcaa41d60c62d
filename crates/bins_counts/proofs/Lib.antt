pub mod Each
pub mod Spots
pub mod Bins
pub mod Changed
