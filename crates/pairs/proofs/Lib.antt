pub mod Places
pub mod Laws
pub mod Runs
pub mod Frames
