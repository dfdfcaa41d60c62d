-- The lines of the planning table that tell which value goes with which.
pub mod Ifs
