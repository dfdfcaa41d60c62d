-- Solutions against the lent arrays of a state.
pub mod Choices
