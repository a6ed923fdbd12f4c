pub mod Slot
pub mod Origin
pub mod Sent
pub mod Start
pub mod Packed
pub mod inside
