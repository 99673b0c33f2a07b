pub mod Pass
pub mod Plan
pub mod Criterion
pub mod Sites
pub mod Bounds
