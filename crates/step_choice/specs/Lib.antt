-- Which step is legal and which comes next.
pub mod Judging
