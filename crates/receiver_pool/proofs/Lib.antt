mod Parts
mod Posted
mod Beyond
mod Entries
mod Turning
mod SeatRows
mod Naming
mod Gathered
