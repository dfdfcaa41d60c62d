pub mod Alone
pub mod Crowded
pub mod Members
pub mod Reached
