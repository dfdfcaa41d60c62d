-- Reading on lent rows, and the round trips.
pub mod Parts
pub mod Before
pub mod Beside
pub mod RoundTrip
