pub mod Fitted
pub mod Promise
