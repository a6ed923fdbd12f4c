mod Unique
mod Fronts
mod Determined
mod Happened
mod Legal
mod Further
mod Complete
