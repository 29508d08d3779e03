pub mod Alike
pub mod Solving
pub mod Tasks
