pub mod Alone
pub mod Crews
pub mod Gates
pub mod Portions
pub mod Refusals
pub mod Runs
