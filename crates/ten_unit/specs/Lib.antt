pub mod Errors
pub mod Word
pub mod Signs
pub mod inside
