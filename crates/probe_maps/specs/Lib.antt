pub mod Maps
pub mod GoodMaps
pub mod MapRules
pub mod SameRecords
pub mod Samples
