pub mod Search
pub mod OrderedLinks
pub mod Own
