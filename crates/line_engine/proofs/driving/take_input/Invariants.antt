use Rattle.std.proofs.Common.{◌≡◌, ℕ, ◌+◌, ◌-◌, ◌*◌, ◌<◌, ◌≤◌, true, List, length}
use Rattle.byte_streams.specs.Streams.{Loses}
use Rattle.line_engine.specs.inside.Progress.{IsOn}
use Rattle.line_engine.proofs.Cutting.{is_text}
use Rattle.line_engine.proofs.driving.take_input.Given as goal

abbrev pub invariant-loop-window : goal.invariant-loop-window
invariant-loop-window g l = record {
  taken : List ℕ;
  lost : Loses (g.S.Source.left l.initial.source) (g.S.Source.left l.source) taken;
  sound : g.S.Source.faults l.source ≡ g.S.Source.faults l.initial.source;
  flushed : g.K.Sink.flushed l.sink ≡ g.K.Sink.flushed l.initial.sink;
  most : length taken ≤ l.count * 4201 + length l.window;
  few : l.count * 4201 + length l.window ≤ 65536 * 4201;
  within : l.count ≤ 65536;
  some : 0 < length l.window → l.count < 65536;
  short : length l.window ≤ 4200;
  is_open : is_text l.window ≡ true;
  on : IsOn g.C.Command.meaning g.C.Command.stands_for g.K.Sink.written g.K.Sink.faults l.initial.sink taken l.window l.count l.command l.out.items l.sink;
}

abbrev pub decreases-loop-window : goal.decreases-loop-window
decreases-loop-window g l = 65536 * 4201 + 1 - (l.count * 4201 + length l.window)
