pub mod BitMap
