-- Laws that proofs of other crates may cite. The other files here are this crate's own.

-- bytes that are no line have one column, and bytes without a column don't lack being a line
pub use Rattle.input_lines.proofs.Columns.{one_column, line_there}
-- signs of elements are signs, and the elements are read back from them; signs are packed, and it is known what was
-- packed
pub use Rattle.input_lines.proofs.Bodies.{all_signs, elements_again, packed_some, packed_are}
-- a line has no fewer bytes than elements
pub use Rattle.input_lines.proofs.Bodies.{reception_few, stream_few}
-- each list of bytes is a line, or has a column: of calls, of calls and sentences, and at a point of a file of an
-- exchange
pub use Rattle.input_lines.proofs.Choices.{call_lines_judged, sentence_lines_judged, world_lines_judged}
