pub mod PublicLaws
mod Edges
mod Ends
mod Kept
mod Read
mod Sets
mod Window
mod Alike
