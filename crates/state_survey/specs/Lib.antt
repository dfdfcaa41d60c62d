-- What the survey tells of a state.
pub mod Survey
pub mod Surveys
