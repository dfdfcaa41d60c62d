-- What the trimming of followers' lists makes of a head's domains.
pub mod Trimmed
