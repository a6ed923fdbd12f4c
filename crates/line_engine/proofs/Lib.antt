pub mod PublicLaws
mod Cutting
mod Faultless
mod Going
mod RunsOver
mod Writing
mod Rooms
mod Pieces
mod Told
mod FirstFaults
mod Outputs
mod HasOutputs
