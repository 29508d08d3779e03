pub mod Fronts
pub mod Gaps
pub mod Ink
pub mod Laid
pub mod Lines
