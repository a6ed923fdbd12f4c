pub mod Rows
pub mod Sentences
pub mod Books
pub mod Texts
pub mod inside
