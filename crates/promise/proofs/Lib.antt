pub mod Calls
pub mod Promise
pub mod Laws
pub mod Settled
pub mod Paired
pub mod Stock
