pub mod Bools
pub mod Sums
pub mod Faults
pub mod Lists
pub mod Sets
pub mod Choice
pub mod Counts
