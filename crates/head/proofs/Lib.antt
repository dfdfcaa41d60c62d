pub mod Held
pub mod Functional
