pub mod Drawn
pub mod Elements
pub mod Turns
