-- The rows of pairs, each pair held once, for any number w of values.
pub mod Pairs
pub mod Frames
