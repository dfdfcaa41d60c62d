pub mod Live
pub mod Revising
pub mod Turn
