use Rattle.stream_capture.proofs.Determined.{capture_determined}
use Rattle.stream_capture.proofs.laws.lines_determine_output.Goals as goal

pub returns : goal.returns
returns c =
    capture_determined c.one_stream_line.ensures c.one_answer.ensures (record { facts = c.decided_starts_stay.ensures.facts; starts = c.decided_starts_stay.ensures.starts })
