-- The parts of a text.
pub mod Texts
