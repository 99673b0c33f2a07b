pub mod PackedEvents
pub mod Told
