-- The balance of a year as a theorem about the numbers that are printed.
pub mod Balance
