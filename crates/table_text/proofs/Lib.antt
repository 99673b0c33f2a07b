pub mod Begins
pub mod Closing
pub mod Good
