pub mod Sent
pub mod WorldHistories
pub mod WorldRules
pub mod StandsFor
pub mod AlertEnds
pub mod inside
