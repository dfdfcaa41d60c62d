-- What the call answers, and what it promises.
pub mod Fitted
pub mod Promise
