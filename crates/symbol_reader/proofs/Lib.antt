pub mod Examples
pub mod Laws
pub mod Steps
pub mod Checks
pub mod Digits
pub mod Characters
pub mod Closings
