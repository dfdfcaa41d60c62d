-- A line of text, byte by byte.
pub mod Bytes
pub mod Scan
pub mod Line
pub mod Strict
