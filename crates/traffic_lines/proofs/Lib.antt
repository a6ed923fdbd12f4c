pub mod PublicLaws
mod Tokens
mod EventSections
mod Deeds
mod LineSections
mod OtherIdentities
mod PointRows
mod Begins
