pub mod Chained
pub mod Misfits
pub mod ParameterParts
pub mod Rows
pub mod Scans
pub mod StatementParts
mod Led
