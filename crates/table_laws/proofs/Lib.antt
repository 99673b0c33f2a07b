pub mod Tables
pub mod Long
pub mod Fits
pub mod Round
pub mod Reading
pub mod Functions
pub mod Samples
