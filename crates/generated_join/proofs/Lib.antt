mod Ranges
mod Overwritten
mod Groups
mod Counting
mod LineTexts
mod JoinTexts
mod OneSummary
mod NotLacking
