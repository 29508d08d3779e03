pub mod Orders
pub mod Entries
pub mod Ranks
pub mod Apart
pub mod Ranked
