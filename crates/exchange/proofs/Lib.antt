mod Leasing
mod Delivering
mod Passing
mod Repeated
mod Committing
mod Starting
mod Below
mod Chunking
mod Lists
mod Together
mod Owned
mod Pinned
mod Pooled
mod Knowing
mod Lowest
mod Receiving
pub mod Accepting
mod Spreading
mod Moved
mod Core
mod Doing
pub mod Windowed
