-- The lines that the program of a year prints.
pub mod Lines
