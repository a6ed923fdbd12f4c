-- Laws that proofs of other crates may cite. The other files here are this crate's own.

-- a run over a meaning is one over any with the same faults whose texts it implies
pub use Rattle.line_engine.proofs.RunsOver.{runs_over}
-- lines have one first fault
pub use Rattle.line_engine.proofs.FirstFaults.{one_first}
-- lines that determine their output have one, and whatever of it is written before the input's end begins it
pub use Rattle.line_engine.proofs.Outputs.{one_text, begins_output, begins_asked}
-- every text begins with nothing, and no lines have no fault
pub use Rattle.line_engine.proofs.Outputs.{begins_empty}
pub use Rattle.line_engine.proofs.Faultless.{none_yet}
-- where it is known whether a line is ill-formed, and lines have texts, each input has an output; a line of lines
-- without a fault is well-formed
pub use Rattle.line_engine.proofs.HasOutputs.{has_outputs, lacks_no_output, sound_line_of}
