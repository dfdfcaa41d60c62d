pub mod Narrowing
pub mod Members
