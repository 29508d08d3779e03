pub mod Seen
pub mod Turning
