-- What a version fixes for the writer, and which rows it takes.
pub mod Filled
pub mod Version
