pub mod Answers
mod Lines
