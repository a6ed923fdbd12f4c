pub mod Facts
pub mod Seen
pub mod TwoNumbers
pub mod Sheet
pub mod Alike
pub mod Allowed
pub mod inside
