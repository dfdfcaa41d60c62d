-- What the functions that read a field answer.
pub mod Fields
