pub mod Stored
pub mod SameThroughLogs
