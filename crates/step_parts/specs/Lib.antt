-- What the rules of a step make of the parts of a head and of rows.
pub mod StepParts
