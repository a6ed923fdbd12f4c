pub mod Transmissions
pub mod Encoding
pub mod inside
