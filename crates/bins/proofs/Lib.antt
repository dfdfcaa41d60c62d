pub mod Shape
pub mod Lists
pub mod Laws
pub mod Places
