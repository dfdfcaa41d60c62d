pub mod Bool
pub mod Fold
pub mod Table
pub mod Array
pub mod Fill
