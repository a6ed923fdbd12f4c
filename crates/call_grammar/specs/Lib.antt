pub mod Spelling
pub mod Walk
pub mod Reading
pub mod inside
