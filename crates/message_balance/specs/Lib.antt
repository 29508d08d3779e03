pub mod Balance
pub mod Same
pub mod SameLaws
pub mod Walks
