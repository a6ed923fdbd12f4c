pub mod Events
pub mod Past
pub mod ShipRules
pub mod Attempted
pub mod StandsFor
pub mod inside
