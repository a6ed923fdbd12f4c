pub mod Left
pub mod Afterwards
