mod Covered
mod Dealt
pub mod Placed
