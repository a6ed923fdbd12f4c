pub mod Output
pub mod Events
pub mod Said
pub mod Meaning
pub mod inside
