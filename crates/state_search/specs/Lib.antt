-- What the search promises of a state.
pub mod Searches
