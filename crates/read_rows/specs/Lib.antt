-- The rows of a table, in its bytes and in the array.
pub mod Rows
