pub mod Within
pub mod Faults
