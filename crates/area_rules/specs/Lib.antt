pub mod Inside
pub mod Addressing
