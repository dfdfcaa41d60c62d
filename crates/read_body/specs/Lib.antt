-- What the functions of reading do.
pub mod Reading
