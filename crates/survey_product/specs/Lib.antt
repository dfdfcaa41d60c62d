-- The tied variables, and what the product is taken over.
pub mod Tied
