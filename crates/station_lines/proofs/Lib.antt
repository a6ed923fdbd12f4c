pub mod PublicLaws
mod Files
mod Lawful
mod Days
