pub mod EndOf
