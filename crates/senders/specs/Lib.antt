pub mod Meeting
pub mod Senders
