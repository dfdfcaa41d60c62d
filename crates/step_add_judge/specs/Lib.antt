-- What refuses a table.
pub mod Judging
