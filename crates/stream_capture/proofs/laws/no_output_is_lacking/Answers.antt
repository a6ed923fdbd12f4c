use Rattle.line_engine.proofs.PublicLaws.{lacks_no_output}
use Rattle.stream_capture.specs.Telling.{capture_meaning}
use Rattle.stream_capture.proofs.NotLacking.{capture_never_stuck}
use Rattle.stream_capture.proofs.laws.no_output_is_lacking.Goals as goal

pub returns : goal.returns
returns c = lacks_no_output capture_meaning (capture_never_stuck c.no_answer_is_lacking.ensures)
