pub mod Lists
pub mod Made
pub mod Sending
pub mod Uneven
