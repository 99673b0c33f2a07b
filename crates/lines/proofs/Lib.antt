pub mod Feeds
pub mod Lines
pub mod Parts
pub mod Numbers
pub mod Alone
pub mod Split
