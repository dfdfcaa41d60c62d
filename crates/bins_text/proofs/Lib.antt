pub mod Laws
pub mod Order
pub mod Lines
pub mod Says
pub mod Accepted
