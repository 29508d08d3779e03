-- The exchange of several workers who hold components in groups. A partition gives each component the number of its group.
pub mod Stubs
pub mod Leases
pub mod Meetings
pub mod Moved
pub mod Wholes
pub mod Windows
pub mod Progress
pub mod Calls
pub mod WindowCalls
pub mod Singles
pub mod Pair
