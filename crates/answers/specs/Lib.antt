-- Document 01's numbers and values for each case of an answer.
pub mod Answers
