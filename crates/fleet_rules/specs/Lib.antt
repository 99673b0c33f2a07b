pub mod Sides
pub mod Survey
