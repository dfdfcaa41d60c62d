-- What soundness comes to on a head and rows.
pub mod Parts
