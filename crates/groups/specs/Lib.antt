pub mod Tournament
pub mod GroupView
pub mod Windows
pub mod Crew
pub mod Open
pub mod Moves
pub mod Dropping
