pub mod Languages
pub mod Reading
pub mod Closings
