pub mod Changes
pub mod First
pub mod Marks
pub mod Places
pub mod States
pub mod Traced
pub mod Written
