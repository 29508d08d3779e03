pub mod Giving
pub mod Inputs
pub mod Members
pub mod Packets
pub mod Passing
pub mod Sure
