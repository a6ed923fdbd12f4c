pub mod Expansions
pub mod Places
pub mod Reading
