pub mod OutcomeLaws
pub mod Frames
pub mod Befalls
