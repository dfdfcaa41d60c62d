-- The entries of a year's list against stock, line by line.
pub mod Year
pub mod Entered
