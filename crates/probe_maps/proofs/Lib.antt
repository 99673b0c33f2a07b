pub mod Rounds
pub mod Altered
pub mod Bits
pub mod SameFault
pub mod Faults
pub mod Searches
pub mod SameAltered
pub mod Samples
