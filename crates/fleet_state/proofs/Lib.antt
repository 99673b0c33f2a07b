pub mod Legal
pub mod CountLaws
pub mod CheckLaws
pub mod Spares
