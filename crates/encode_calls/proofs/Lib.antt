mod SignTable
mod Bodies
mod Encoded
mod Determined
mod Complete
