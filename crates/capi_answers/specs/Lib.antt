-- What the functions for C and Rust answer.
pub mod Answers
pub mod Version
