pub mod Chain
pub mod Calls
