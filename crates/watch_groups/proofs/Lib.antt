mod Calls
mod Looks
mod Batches
mod Kept
mod Ends
mod Begun
