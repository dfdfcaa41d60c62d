pub mod Refuses
pub mod Asked
pub mod Numbers
pub mod Stock
pub mod Year
