mod Crossing
mod Ended
pub mod Fronted
mod Gathered
pub mod Growing
mod Held
mod Portioned
mod Putting
mod Relayed
mod Sending
pub mod Written
