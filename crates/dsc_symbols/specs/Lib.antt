pub mod Ranges
pub mod Formats
pub mod Natures
pub mod Telecommands
pub mod Categories
pub mod Ends
