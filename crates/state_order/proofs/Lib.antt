pub mod Orders
pub mod Planned
