pub mod CivilTime
pub mod Moments
pub mod ActTexts
pub mod RefusalTexts
pub mod Answers
pub mod Events
