-- The text of the bins.
pub mod Text
pub mod Machine
pub mod Fed
