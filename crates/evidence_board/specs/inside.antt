pub mod May
pub mod Tells
pub mod Through
pub mod Worked
