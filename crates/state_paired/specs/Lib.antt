-- The reading call for the paired profile, beside the other one.
pub mod Beside
