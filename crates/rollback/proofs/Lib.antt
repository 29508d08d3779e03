pub mod Flight
mod Posts
mod Replays
pub mod Sending
mod Falling
mod Clocks
mod Keeping
mod Stepping
mod Unwinding
mod Oldest
mod Dropping
mod Spared
mod Returning
mod Nearest
mod Equality
mod Searching
mod Levels
mod Flights
mod Taken
mod Standing
pub mod Lowest
mod Leaving
mod Even
mod Numbered
mod Resent
