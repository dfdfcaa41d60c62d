-- The survey over a head and lent rows.
pub mod Tally
pub mod Settle
pub mod Spread
pub mod Surveyed
