pub mod Within
pub mod Closing
