pub mod Reach
pub mod Mentions
pub mod Conditions
pub mod Stages
pub mod Branches
pub mod Held
pub mod Bounds
