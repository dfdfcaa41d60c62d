-- Bins as counts in an array.
pub mod Counts
