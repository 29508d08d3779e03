pub mod Bytes
pub mod Cutting
pub mod Finding
pub mod Layout
pub mod Refusals
pub mod Seen
pub mod Spelling
pub mod Tokens
