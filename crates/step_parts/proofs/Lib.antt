pub mod Thirds
pub mod StepArrays
pub mod StepRows
