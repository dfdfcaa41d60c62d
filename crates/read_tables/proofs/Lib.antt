pub mod Held
pub mod TablesLoop
