pub mod RisingSlices
pub mod OrderedLinks
pub mod Own
