pub mod PublicLaws
mod Shows
mod Copies
mod InOrder
