-- The search over a head and lent rows.
pub mod Turns
pub mod Found
