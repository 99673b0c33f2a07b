pub mod Table
pub mod Reading
