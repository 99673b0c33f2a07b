pub mod Offers
pub mod Record
pub mod Chain
