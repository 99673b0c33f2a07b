pub mod Table
pub mod Legal
pub mod Slices
pub mod Text
pub mod Same
pub mod Checking
pub mod Withdrawn
