-- Laws that proofs of other crates may cite. The other files here are this crate's own.

-- of a file that begins with some lines, the last line is the last of these or a later one; a text that begins with one
-- that begins with another
pub use Rattle.station_lines.proofs.Files.{not_empty, no_more, last_of, begins_itself, begins_further}
-- the parts of the events that event lines give are in their ranges: of what an end does, and of the event that a line
-- gives of itself
pub use Rattle.station_lines.proofs.Lawful.{ship_deed_lawful, coast_deed_lawful, ship_event_lawful, coast_event_lawful}
