use Rattle.std.proofs.Common.{◌+◌, ◌*◌}
use Rattle.slot_evidence.proofs.Window.{IsFilled}
use Rattle.slot_evidence.proofs.slots.read_slots.Given as goal

abbrev pub invariant-loop-window : goal.invariant-loop-window
invariant-loop-window g l = record {
  dx : IsFilled (g.E.Elements.list l.e) l.lead 12 l.dx (3 * l.window);
  rx : IsFilled (g.E.Elements.list l.e) l.lead 13 l.rx (3 * l.window);
}

abbrev pub invariant-loop-k : goal.invariant-loop-k
invariant-loop-k g l = record {
  dx : IsFilled (g.E.Elements.list l.e) l.lead 12 l.dx (3 * l.window + l.k);
  rx : IsFilled (g.E.Elements.list l.e) l.lead 13 l.rx (3 * l.window + l.k);
}
