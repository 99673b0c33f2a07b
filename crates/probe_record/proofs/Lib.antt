pub mod SearchLaws
pub mod Bytes
