-- A whole cut on lent rows.
pub mod Parts
