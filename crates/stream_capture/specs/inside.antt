pub mod Progress
pub mod Gives
