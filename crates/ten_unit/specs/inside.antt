pub mod Carried
pub mod Codes
pub mod Marks
pub mod Number
pub mod Symbol
