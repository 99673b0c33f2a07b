pub mod Words
pub mod Maps
