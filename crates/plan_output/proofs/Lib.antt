pub mod Printing
pub mod Same
pub mod Reading
pub mod Most
pub mod Long
pub mod Claims
pub mod Samples
