mod Moving
mod Going
mod Deliveries
mod Splits
mod Answered
mod Endings
mod Silence
