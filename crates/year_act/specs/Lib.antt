-- What a line of the list does, and what is printed for it.
pub mod Answers
pub mod Kept
