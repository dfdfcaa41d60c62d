-- The arrays that are lent.
pub mod Lent
