use Rattle.stream_capture.proofs.Determined.{one_end}
use Rattle.stream_capture.proofs.laws.streams_determine_output.Goals as goal

pub returns : goal.returns
returns c = λ a b x y p q same text other s t g h. one_end c.one_stream_line.ensures c.one_answer.ensures a b x y p q same text other s t g h
