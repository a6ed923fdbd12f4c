use Rattle.std.proofs.Common.{ℕ, ◌||◌, List, length, arith, ap, sym, ◌∙◌, subst, inl, inr}
use Rattle.std.proofs.lemmas.Bool.{cases_eq}
use Rattle.slot_evidence.specs.Sheet.{facts_in, seen_at}
use Rattle.slot_evidence.proofs.PublicLaws.{kept_shown}
use Rattle.live_watch.specs.Told.{IsShownAt}
use Rattle.live_watch.proofs.Sending.{spelled_long}
use Rattle.live_watch.proofs.showing.shows_call.Goals as goal

pub loop-place-preserved : goal.loop-place-preserved
loop-place-preserved c = λ p two below. elim (cases_eq p c.loop-place.place) [
  | inl here ↦ subst (λ (q : ℕ). IsShownAt (facts_in c.args.sheet.now) c.args.call.now q) (sym here) (c.shows_place.ensures.shown c.if-not-shows_place.false)
  | inr apart ↦ c.loop-place.invariant p two (omega (arith, below, apart))
]

pub returns-clause-shown : goal.returns-clause-shown
returns-clause-shown c = λ is.
    let F = facts_in c.args.sheet.now in
    record {
      lawful = c.lawful.ensures;
      head = ap (λ (v : ℕ). F 0 v || F 1 v) (sym c.format_of.ensures) ∙ sym c.either_keeps.ensures ∙ c.if-not-either_keeps.false;
      places = λ p two below. c.loop-place.invariant p two (omega (arith, below, spelled_long c.args.call.now, ap (λ (l : List ℕ). length l) c.spell-list.ensures));
    }

pub returns-clause-told : goal.returns-clause-told
returns-clause-told c = λ is F ends.
    c.told_calls.ensures.more (facts_in c.args.sheet.now) F c.args.call.now (λ p v kept. kept_shown (F p) (seen_at c.args.sheet.now p) v (ends.each p) kept) (returns-clause-shown c is)
