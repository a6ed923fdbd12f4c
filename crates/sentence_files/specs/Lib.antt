pub mod Telling
pub mod Booking
pub mod inside
