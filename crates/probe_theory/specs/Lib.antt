pub mod EndLaws
pub mod SameThroughCalls
