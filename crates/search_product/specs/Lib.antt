-- What the product is taken over.
pub mod Choices
