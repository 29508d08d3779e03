pub mod Counting
mod Drawing
pub mod Stepping
mod Waiting
