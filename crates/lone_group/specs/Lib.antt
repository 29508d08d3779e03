pub mod Drawn
pub mod Held
pub mod Lone
pub mod Taken
