pub mod Left
pub mod Passing
pub mod Placing
