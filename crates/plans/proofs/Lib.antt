mod AllKnown
mod Candidates
mod Fitting
mod Listing
mod Pairs
mod Passing
mod Remembered
mod Tasks
