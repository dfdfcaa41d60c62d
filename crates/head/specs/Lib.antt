-- A head and rows, and the network that they hold.
pub mod Held
