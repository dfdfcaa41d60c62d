pub mod OnePass
pub mod Turned
pub mod Walk
pub mod Named
