-- What a table says of the values of two leaders, and a table from its other side.
pub mod Sides
pub mod Turned
