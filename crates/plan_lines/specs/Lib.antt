-- The lines of the planning table that tell of options and their values.
pub mod Lines
