-- Texts put into a buffer as far as it has room.
pub mod Put
