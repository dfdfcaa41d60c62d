pub mod Composition
