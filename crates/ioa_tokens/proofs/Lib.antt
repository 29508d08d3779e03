pub mod Again
pub mod Ascii
pub mod Cuts
pub mod Fits
pub mod Fronts
pub mod Layouts
pub mod Longest
pub mod Proper
