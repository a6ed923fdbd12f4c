pub mod Reading
pub mod Soundness
