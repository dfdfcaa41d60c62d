-- What refuses a step of two variables.
pub mod Judging
