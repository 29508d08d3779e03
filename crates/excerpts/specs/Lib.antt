pub mod Excerpts
pub mod Places
