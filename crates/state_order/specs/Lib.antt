-- In which order to plan: what the two calls answer of a state, and the sentences of it.
pub mod Orders
pub mod Planned
