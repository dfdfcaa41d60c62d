-- The value of a follower at a value of its leader.
pub mod FollowerValue
