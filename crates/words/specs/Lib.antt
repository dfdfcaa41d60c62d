-- A machine word as the set of its values.
pub mod Word
-- The members of a word one by one.
pub mod Walked
