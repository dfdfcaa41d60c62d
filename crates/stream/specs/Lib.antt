-- Inputs as lines, and what a program makes of them.
pub mod Lines
pub mod Program
pub mod Bytes
