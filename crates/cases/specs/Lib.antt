pub mod CaseA
pub mod Orders
pub mod Plans
