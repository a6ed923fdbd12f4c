pub mod Parts
pub mod Expansions
pub mod Spelling
pub mod Reading
pub mod inside
