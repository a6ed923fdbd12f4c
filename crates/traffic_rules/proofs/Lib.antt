pub mod PublicLaws
mod Steps
mod Frame
mod Lists
mod Places
mod HeldAfter
mod HeldLists
mod HeldRules
mod Unmet
mod Counts
mod Handled
mod Plain
