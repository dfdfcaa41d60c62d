-- Tests, counts and searches over the numbers below a bound: what every definition above is made of.
pub mod Bool
pub mod Fold
pub mod Table
pub mod Array
