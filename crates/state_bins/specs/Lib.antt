-- Deliveries and call-offs against the bins of a state: what they answer, when they refuse, which bins they change, and the law of a year's list of them.
pub mod Bins
pub mod Refuses
pub mod Stock
pub mod Year
pub mod Asked
pub mod Numbers
