use Rattle.std.proofs.Common.{◌≡◌, ℕ, ◌+◌, ◌-◌, ◌*◌, ◌≤◌, List, length, drop}
use Rattle.line_engine.specs.inside.Progress.{IsCounted, IsOn}
use Rattle.line_engine.proofs.walk.take_lines.Given as goal

abbrev pub invariant-loop-at : goal.invariant-loop-at
invariant-loop-at g l = record {
  left : l.rest ≡ drop (length l.bytes - length l.rest) l.bytes;
  less : length l.rest ≤ length l.bytes;
  few : l.count ≤ 65536;
  goes_on : l.initial.count * 4201 + length l.bytes ≤ l.count * 4201 + length l.rest;
  flushed : g.K.Sink.flushed l.sink ≡ g.K.Sink.flushed l.initial.sink;
  counted : IsCounted g.C.Command.stands_for l.command l.out.items l.count;
  on : (start : g.row.K.Denot) (taken : List ℕ)
      → IsOn g.C.Command.meaning g.C.Command.stands_for g.K.Sink.written g.K.Sink.faults start taken l.bytes l.initial.count l.initial.command l.initial.out.items l.initial.sink
      → IsOn g.C.Command.meaning g.C.Command.stands_for g.K.Sink.written g.K.Sink.faults start taken l.rest l.count l.command l.out.items l.sink;
}

abbrev pub decreases-loop-at : goal.decreases-loop-at
decreases-loop-at g l = length l.rest
