use Rattle.std.proofs.Common.{slice_index, arith, ap, sym, ◌∙◌, inl, inr}
use Rattle.std.proofs.lemmas.Bool.{cases_eq}
use Rattle.std.proofs.lemmas.List.{get_or_default}
use Rattle.live_watch.proofs.batches.place_of.Goals as goal

pub loop-place-preserved : goal.loop-place-preserved
loop-place-preserved c = λ j below is. elim (cases_eq j c.loop-place.place) [
  | inl here ↦ absurd (c.if-known-group.false (sym (ap (slice_index c.args.groups.now) here) ∙ is))
  | inr apart ↦ c.loop-place.invariant j (omega (arith, below, apart)) is
]

pub returns : goal.returns
returns c = λ among. c.loop-place.invariant among.0 (omega (arith, among.1)) (get_or_default c.args.groups.now among.0 0 c.args.group among.1 ∙ among.2)
