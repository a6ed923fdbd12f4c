pub mod Kept
pub mod Names
pub mod Gives
pub mod Begun
pub mod Groups
