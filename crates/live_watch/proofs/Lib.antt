pub mod PublicLaws
mod Telling
mod Sending
mod Polling
mod Posting
mod Sheets
mod Rounds
mod Watched
mod Places
