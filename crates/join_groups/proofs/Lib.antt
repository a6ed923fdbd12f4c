pub mod PublicLaws
mod Naming
mod Rising
mod Holding
mod Keeping
mod TellingLemmas
mod LinesTaken
mod TextLaws
mod Determined
mod FactsLaws
mod NotLacking
mod NotLackingEnds
