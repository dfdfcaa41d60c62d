-- A list handed over in parts.
pub mod Feed
