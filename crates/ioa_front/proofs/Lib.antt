pub mod Found
pub mod Counts
