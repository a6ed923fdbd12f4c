pub mod Events
pub mod Lines
pub mod Worlds
pub mod Readings
