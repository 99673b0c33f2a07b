pub mod Line
pub mod Digits
pub mod Fields
