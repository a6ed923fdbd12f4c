use Rattle.std.proofs.Common.{◌<◌, ◌+◌, ◌*◌, arith}
use Rattle.phasing.specs.inside.Places.{element_at}
use Rattle.slot_evidence.proofs.Window.{slot_shown, filled_none, filled_more, filled_all}
use Rattle.slot_evidence.proofs.slots.read_slots.Goals as goal

pub loop-window-init : goal.loop-window-init
loop-window-init g c = record {
  dx = filled_none (g.E.Elements.list c.args.e) c.args.lead 12;
  rx = filled_none (g.E.Elements.list c.args.e) c.args.lead 13;
}

pub loop-k-preserved : goal.loop-k-preserved
loop-k-preserved g c =
    let kept = c.loop-k.invariant in
    let e = (g.E.Elements.list c.args.e) in
    let lead = c.args.lead in
    let at = 3 * c.loop-window.window + c.loop-k.k in
    let room : at < 66 = omega (arith, c.windows-window-end.ensures.most) in
    let planes = c.planes_from-planes.ensures in
    record {
      dx = filled_more e lead 12 c.loop-k.dx at _ _ (omega arith) room kept.dx (slot_shown e lead (12 + 2 * at) _ _ (omega arith) (c.six_shown-symbols.ensures _ (element_at e) planes (2 * c.loop-k.k) (omega arith)));
      rx = filled_more e lead 13 c.loop-k.rx at _ _ (omega arith) room kept.rx (slot_shown e lead (13 + 2 * at) _ _ (omega arith) (c.six_shown-symbols.ensures _ (element_at e) planes (2 * c.loop-k.k + 1) (omega arith)));
    }

pub returns : goal.returns
returns g c =
    let kept = c.loop-window.invariant in
    let rest = c.windows-window-end.ensures.rest in
    record {
      dx = filled_all (g.E.Elements.list c.args.e) c.args.lead 12 c.loop-window.dx _ kept.dx (λ k past below. omega (arith, rest k (omega arith) below, c.count.ensures));
      rx = filled_all (g.E.Elements.list c.args.e) c.args.lead 13 c.loop-window.rx _ kept.rx (λ k past below. omega (arith, rest k (omega arith) below, c.count.ensures));
    }
