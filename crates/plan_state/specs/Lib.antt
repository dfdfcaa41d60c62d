-- The planning table of a state.
pub mod Plan
