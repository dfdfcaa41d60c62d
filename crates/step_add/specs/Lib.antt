-- What a cut leaves of a pair.
pub mod Cut
