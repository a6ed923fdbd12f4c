pub mod PublicLaws
mod Bits
mod Numbers
mod Reading
mod Rows
mod Turned
mod SignMarks
