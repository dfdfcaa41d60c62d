pub mod Told
pub mod Surveys
