pub mod Joining
pub mod Told
pub mod Batches
pub mod Watching
pub mod inside
