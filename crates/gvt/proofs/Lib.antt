pub mod Passed
pub mod Steps
pub mod Played
