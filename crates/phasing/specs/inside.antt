pub mod Intact
pub mod Likely
pub mod Marked
pub mod Places
