pub mod Files
pub mod Events
