mod Moves
mod Sums
