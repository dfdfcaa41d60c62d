pub mod Laws
pub mod Limit
