pub mod Letters
pub mod Digits
pub mod Checks
pub mod inside
