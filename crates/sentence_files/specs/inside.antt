pub mod Progress
pub mod Booked
