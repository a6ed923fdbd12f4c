pub mod Back
pub mod Kept
pub mod Six
pub mod Span
