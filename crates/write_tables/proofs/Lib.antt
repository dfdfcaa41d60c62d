pub mod Texts
pub mod Later
pub mod OtherOrder
