pub mod Explanations
pub mod Marks
