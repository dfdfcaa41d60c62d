-- Domains, and what a value leaves of them.
pub mod Narrow
