pub mod EndsBelow
pub mod Turns
