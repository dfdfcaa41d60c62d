-- What soundness asks of a head by itself.
pub mod Fits
