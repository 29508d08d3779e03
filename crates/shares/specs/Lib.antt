pub mod Dealing
pub mod Hands
pub mod Shares
pub mod Turns
pub mod Waiting
