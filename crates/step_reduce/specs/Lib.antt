-- What the full reduction makes of a head and rows.
pub mod Reduced
