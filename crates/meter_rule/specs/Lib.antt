-- Page nine of the flat meter.
pub mod PageNine
