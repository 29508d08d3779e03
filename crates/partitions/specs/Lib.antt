pub mod Partitions
pub mod Groups
pub mod Faults
