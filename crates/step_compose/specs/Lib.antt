-- What rules 1 and 2 come to on the array of rows.
pub mod Compose
