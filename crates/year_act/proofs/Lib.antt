pub mod Sums
pub mod Low
pub mod Keeps
