pub mod AllBalanced
pub mod Counting
mod NextMessages
