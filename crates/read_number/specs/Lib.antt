-- How many bytes a number may have.
pub mod Bytes
pub mod Standing
