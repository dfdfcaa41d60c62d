-- What the planning table promises.
pub mod Promise
