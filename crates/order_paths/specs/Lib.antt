-- Who reaches and who governs whom, as words.
pub mod Crowded
pub mod Paths
