pub mod Least
pub mod Counts
pub mod Seats
pub mod Tournaments
