-- Demand 3, and the laws that a layer above the sheets leans on.
pub mod Promise
pub mod Laws
pub mod Settled
pub mod Paired
pub mod Stock
