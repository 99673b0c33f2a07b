pub mod Steps
pub mod FromDearest
