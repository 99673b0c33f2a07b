pub mod Own
pub mod Sides
pub mod Passing
pub mod Outcomes
