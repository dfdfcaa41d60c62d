-- A sheet that was accepted.
pub mod Accepted
pub mod Named
