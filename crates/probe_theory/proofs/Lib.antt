pub mod Stores
pub mod Changes
pub mod Usable
pub mod OpensNothing
pub mod Asking
pub mod EndLaws
pub mod SameThroughCalls
