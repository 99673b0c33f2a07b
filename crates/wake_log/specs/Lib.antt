pub mod Entry
pub mod Log
