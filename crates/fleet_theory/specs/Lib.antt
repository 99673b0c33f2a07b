pub mod Fleet
pub mod Words
pub mod ClaimsOfRun
pub mod Ends
pub mod Samples
pub mod Withdrawn
