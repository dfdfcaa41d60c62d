pub mod Version
pub mod Filled
