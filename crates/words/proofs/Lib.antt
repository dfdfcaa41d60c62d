pub mod Laws
pub mod Machine
