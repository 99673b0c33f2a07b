pub mod Turned
pub mod ThereAndBack
