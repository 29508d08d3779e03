mod Owned
mod Scheduled
pub mod Told
