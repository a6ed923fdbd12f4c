use native.Mathlib.Omega.{arith}
use Rattle.std.proofs.Common.{◌≡◌, ◌<◌, ◌++◌, ◌+◌, length, take, suc, List, None, Option, slice_index_or, sym, ◌∙◌, ap}
use Rattle.traffic_rules.specs.declared.acts.Act.{Act}
use Rattle.traffic_rules.specs.declared.held.Holding.{Holding}
use Rattle.traffic_rules.specs.Holding.{Places, place_of, with_place}
use Rattle.traffic_rules.specs.Repeating.{repeated, repeats, ticked}
use Rattle.traffic_rules.proofs.Lists.{next_place, next_held, next_acts, place_at, append_again}
use Rattle.traffic_rules.proofs.repeating.repeat.Goals as goal

pub loop-index-preserved : goal.loop-index-preserved
loop-index-preserved c =
    let i = c.loop-index.index in
    let at = c.args.at in
    let old = c.args.held.now in
    let sixteen : length old ≡ 16 = c.loop-index.invariant.sixteen in
    let below : i < length old = omega arith in
    let next : i + 1 ≡ suc i = omega arith in
    let here : place_of c.loop-index.held (i + 1) ≡ slice_index_or old i None =
    ap (λ (l : Places). place_of l (i + 1)) c.loop-index.invariant.held ∙ place_at _ (i + 1) i next ∙ next_place (ticked at) old i below in
    record {
      sixteen = sixteen;
      range = omega arith;
      room = omega (arith, c.repeat_one.ensures.few, c.loop-index.invariant.room);
      acts = c.repeat_one.ensures.acts ∙ ap (λ (x : Option Holding). c.loop-index.acts.items ++ repeated at (i + 1) x) here
          ∙ ap (λ (l : List Act). l ++ repeated at (i + 1) (slice_index_or old i None)) c.loop-index.invariant.acts
          ∙ append_again c.args.acts.now.items (repeats at 1 (take i old)) (repeated at (i + 1) (slice_index_or old i None))
          ∙ ap (λ (l : List Act). c.args.acts.now.items ++ l) (sym (next_acts at old i (i + 1) below next));
      held = c.repeat_one.ensures.held ∙ ap (λ (l : Places). with_place l (i + 1) (ticked at (place_of l (i + 1)))) c.loop-index.invariant.held
          ∙ next_held (ticked at) old i (i + 1) below next;
    }
