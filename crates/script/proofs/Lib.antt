pub mod Table
pub mod Answered
pub mod Writing
mod Behind
