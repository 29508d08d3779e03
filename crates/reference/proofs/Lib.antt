pub mod Checked
mod Joining
mod Lined
mod Queued
pub mod Runs
mod Stepping
mod Stood
mod Takers
mod Reached
pub mod Taken
mod Owning
mod Woken
