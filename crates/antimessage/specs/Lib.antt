pub mod Counts
pub mod Order
pub mod Bags
pub mod Meetings
