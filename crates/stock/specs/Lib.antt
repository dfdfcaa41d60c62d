-- Deliveries and call-offs on counts of bins.
pub mod Stock
