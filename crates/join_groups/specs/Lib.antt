pub mod Groups
pub mod Holds
pub mod Output
pub mod Meanings
pub mod Laws
pub mod inside
