pub mod Laws
pub mod Reading
pub mod HeardSoFar
pub mod Faults
pub mod Said
pub mod Told
pub mod Stored
