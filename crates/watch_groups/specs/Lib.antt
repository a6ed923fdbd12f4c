pub mod Telling
pub mod Meaning
pub mod inside
