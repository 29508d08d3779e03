pub mod Machine
pub mod Reads
pub mod Items
pub mod Lists
pub mod Blocks
pub mod Depths
