pub mod Slots
pub mod OnAir
