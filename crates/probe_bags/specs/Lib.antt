pub mod Bag
pub mod BagLaws
pub mod Samples
