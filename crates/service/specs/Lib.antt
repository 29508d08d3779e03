pub mod Crews
pub mod Flushed
pub mod Reports
pub mod Subjects
pub mod Told
