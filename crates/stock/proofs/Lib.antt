pub mod Sizes
pub mod Delivery
pub mod CallOff
