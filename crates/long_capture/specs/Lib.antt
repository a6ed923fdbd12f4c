pub mod Starts
pub mod Told
pub mod Captures
pub mod inside
