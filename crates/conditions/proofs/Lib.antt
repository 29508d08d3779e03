pub mod Copies
pub mod Truths
pub mod Opening
pub mod Staging
pub mod Bounding
