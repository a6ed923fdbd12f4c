pub mod Reading
pub mod Points
