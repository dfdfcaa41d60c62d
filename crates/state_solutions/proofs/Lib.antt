pub mod Solutions
pub mod FollowerValue
