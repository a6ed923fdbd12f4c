pub mod Kept
pub mod Progress
pub mod Gives
pub mod Happens
