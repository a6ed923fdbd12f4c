pub mod Events
pub mod Firsts
pub mod Casualties
pub mod Accepting
pub mod Acknowledged
pub mod CoastRules
pub mod StandsFor
pub mod inside
