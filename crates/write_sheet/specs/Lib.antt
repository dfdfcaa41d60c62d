-- What writing a sheet does.
pub mod Writing
