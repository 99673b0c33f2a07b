pub mod Logged
pub mod SameThroughLogs
