use Rattle.std.proofs.Common.{◌≡◌, ℕ, ◌+◌, ◌*◌, ◌<◌, ◌≤◌, false}
use Rattle.ten_unit.specs.inside.Marks.{IsPlanes}
use Rattle.phasing.specs.inside.Likely.{filled}
use Rattle.phasing.specs.inside.Marked.{ArePhasing}
use Rattle.phasing.specs.Origin.{is_phased}
use Rattle.phasing.specs.inside.Places.{element_at}
use Rattle.phasing.proofs.phase.first_within.Given as goal

abbrev pub invariant-loop-turn : goal.invariant-loop-turn
invariant-loop-turn g l = record {
  first : ArePhasing l.first (64 * l.begin + 192 * l.turn + 22) (filled (element_at (g.E.Elements.list l.e)));
  second : ArePhasing l.second (64 * l.begin + 192 * l.turn + 86) (filled (element_at (g.E.Elements.list l.e)));
  third : ArePhasing l.third (64 * l.begin + 192 * l.turn + 150) (filled (element_at (g.E.Elements.list l.e)));
  next : IsPlanes l.next.y l.next.b (64 * l.begin + 192 * l.turn + 214) (element_at (g.E.Elements.list l.e));
  none : (k : ℕ) → 64 * l.begin + 22 ≤ k → k < 64 * l.begin + 192 * l.turn + 22 → is_phased (g.E.Elements.list l.e) k ≡ false;
}
