pub mod Reading
pub mod RoundTrip
pub mod Before
pub mod Beside
