pub mod Functions
pub mod Samples
