-- What soundness asks of the rows.
pub mod Fits
