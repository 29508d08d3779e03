mod Cutting
mod Moves
pub mod Owning
mod Standing
mod Sums
