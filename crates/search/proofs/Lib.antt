mod Choosing
mod Completing
pub mod Settling
