-- What the trimming of live lists against each other makes of a head's domains.
pub mod Live
