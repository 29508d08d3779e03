pub mod Capped
pub mod Factors
pub mod Items
pub mod Keeps
pub mod Scopes
