pub mod Passes
pub mod Sections
