mod Cells
mod Covering
mod Earliest
mod Likeness
mod Marked
mod Sameness
