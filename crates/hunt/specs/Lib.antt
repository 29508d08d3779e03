pub mod Faults
pub mod Hunts
pub mod Known
pub mod Seeds
pub mod Sightings
pub mod Wanted
