-- Page nine on a head and lent rows.
pub mod Parts
