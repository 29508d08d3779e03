-- The exchange of several workers.
pub mod Stubs
pub mod Leases
pub mod Meetings
pub mod Moved
pub mod Wholes
pub mod Windows
pub mod Progress
pub mod Calls
pub mod WindowCalls
pub mod Merged
