pub mod Schedules
pub mod Turns
