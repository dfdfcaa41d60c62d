-- Texts in a lent buffer, and numbers as digits.
pub mod Wrote
pub mod Digits
