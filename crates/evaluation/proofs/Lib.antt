pub mod Carried
pub mod Effects
pub mod Turned
pub mod Values
