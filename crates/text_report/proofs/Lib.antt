pub mod Fits
pub mod Answer
pub mod Limit
