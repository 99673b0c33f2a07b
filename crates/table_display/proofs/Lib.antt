pub mod Display
pub mod Samples
