pub mod Around
pub mod Cells
pub mod Marks
pub mod Onto
pub mod Same
pub mod Strands
