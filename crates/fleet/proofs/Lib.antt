pub mod Checks
pub mod Calls
pub mod Passing
pub mod Changes
pub mod OpensNothing
