-- The lines of the end.
pub mod End
pub mod Arrays
