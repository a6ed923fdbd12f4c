use Rattle.std.proofs.Common.{◌≡◌, ℕ, List, ◌++◌, length}
use Rattle.byte_streams.specs.Streams.{Gains}
use Rattle.byte_streams.proofs.whole.write_all.Given as goal

abbrev pub invariant-loop-rest : goal.invariant-loop-rest
invariant-loop-rest g l = record {
  front : (front : List ℕ) × (l.text ≡ front ++ l.rest) × Gains (g.K.Sink.written l.initial.sink) (g.K.Sink.written l.sink) front;
  sound : g.K.Sink.faults l.sink ≡ g.K.Sink.faults l.initial.sink;
  flushed : g.K.Sink.flushed l.sink ≡ g.K.Sink.flushed l.initial.sink;
}

abbrev pub decreases-loop-rest : goal.decreases-loop-rest
decreases-loop-rest g l = length l.rest
