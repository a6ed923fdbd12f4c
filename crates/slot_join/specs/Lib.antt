pub mod Answer
pub mod Shown
pub mod Extra
pub mod Heard
pub mod Intact
pub mod OneCall
