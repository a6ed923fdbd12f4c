pub mod PublicLaws
mod Listed
mod Folds
mod OnePlace
mod StepKinds
mod Changes
mod Loads
mod Rests
mod Core
mod Boards
mod Unions
