-- What the functions that read tables do.
pub mod Tables
