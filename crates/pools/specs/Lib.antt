pub mod Passes
pub mod Places
