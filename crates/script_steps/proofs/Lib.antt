pub mod Printing
pub mod PieceLaws
pub mod Closing
pub mod Holding
