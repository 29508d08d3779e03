pub mod Yields
pub mod Printed
