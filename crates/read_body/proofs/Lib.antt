pub mod SizesLoop
pub mod Reading
