mod Texts
mod Steps
mod Ready
mod Fronts
mod Determined
mod LinesTaken
mod NotLacking
