mod BadLines
mod Beginnings
mod Checked
pub mod DrawReports
mod DriveReports
mod Driven
pub mod FileReports
mod Formattings
mod Fronted
pub mod HuntReports
mod Pieces
mod Printings
mod Why
mod Reporting
mod SetupReports
mod Streaming
mod Tellings
