pub mod Cut
pub mod Turning
