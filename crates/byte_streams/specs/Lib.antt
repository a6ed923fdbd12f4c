pub mod Streams
pub mod Sure
pub mod Failing
pub mod Standard
