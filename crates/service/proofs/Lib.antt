pub mod CrewReports
pub mod Flushed
pub mod Told
