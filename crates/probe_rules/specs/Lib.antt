pub mod Rules
pub mod Frames
pub mod Within
