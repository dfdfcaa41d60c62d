pub mod Alternating
