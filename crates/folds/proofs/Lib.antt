pub mod Bits
pub mod Tables
