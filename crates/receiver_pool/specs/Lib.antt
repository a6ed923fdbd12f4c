pub mod Posting
pub mod Groups
pub mod Rows
pub mod Seeing
pub mod Joining
pub mod inside
