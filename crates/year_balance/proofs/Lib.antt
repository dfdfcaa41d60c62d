pub mod Balance
pub mod Ends
