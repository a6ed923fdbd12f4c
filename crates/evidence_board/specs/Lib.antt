pub mod Views
pub mod Rule
pub mod Steps
pub mod Looks
pub mod Seats
pub mod Facts
pub mod Events
pub mod inside
