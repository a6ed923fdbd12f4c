pub mod Known
pub mod Posted
pub mod Rounds
