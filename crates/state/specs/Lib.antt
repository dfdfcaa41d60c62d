-- What the public calls mean.
pub mod View
pub mod Answers
pub mod Read
pub mod Write
pub mod Calls
pub mod Steps
pub mod Rested
pub mod Led
pub mod Rules
pub mod Tables
pub mod Worked
pub mod Solutions
pub mod Cut
