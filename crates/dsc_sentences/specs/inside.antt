pub mod DscReading
pub mod DseReading
pub mod Hearing
