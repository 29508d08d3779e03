pub mod Chosen
pub mod Drawing
pub mod Hunting
pub mod Rules
pub mod Words
