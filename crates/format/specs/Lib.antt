-- The bytes of a sheet.
pub mod Layout
pub mod Parse
pub mod Print
pub mod WellFormed
pub mod Writable
pub mod Builds
pub mod Examples
pub mod Profile
