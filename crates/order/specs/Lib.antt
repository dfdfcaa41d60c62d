-- What the test of an order and the search for one answer.
pub mod Orders
