mod Tallying
mod Settling
mod Spreading
pub mod Surveying
