use Rattle.std.proofs.Common.{ℕ, ◌<◌, length, Some, arith, ◌∙◌}
use Rattle.slot_evidence.specs.declared.places.Seen.{Seen}
use Rattle.slot_evidence.specs.Facts.{facts_at}
use Rattle.slot_evidence.specs.Seen.{IsSeen, IsLawful}
use Rattle.slot_evidence.proofs.Ends.{fill_more, everywhere}
use Rattle.std.proofs.lemmas.Bool.{le-ltb, and_left}
use Rattle.std.proofs.lemmas.List.{length-set}
use Rattle.slot_evidence.proofs.plain.places_of.Goals as goal

pub loop-p-preserved : goal.loop-p-preserved
loop-p-preserved c =
    let kept = c.loop-p.invariant in
    let inside : c.loop-p.p < length c.loop-p.places = omega (arith, kept.long) in
    record {
      long = length-set c.loop-p.places _ _ ∙ kept.long;
      seen = fill_more (λ (k : ℕ) (x : Seen). IsSeen (facts_at c.args.e.now (Some c.args.lead) k) x) c.loop-p.places _ _ inside kept.seen c.seen_of.ensures.seen;
      lawful = fill_more (λ (k : ℕ) (x : Seen). IsLawful x) c.loop-p.places _ _ inside kept.lawful c.seen_of.ensures.lawful;
    }

pub returns-clause-seen : goal.returns-clause-seen
returns-clause-seen c =
    let kept = c.loop-p.invariant in
    everywhere (λ (k : ℕ) (x : Seen). IsSeen (facts_at c.args.e.now (Some c.args.lead) k) x) c.loop-p.places 64 (omega (arith, kept.long))
    (λ k below. kept.seen k (omega arith))
    (λ k past v. and_left _ _ (le-ltb k 64 past))

pub returns-clause-lawful : goal.returns-clause-lawful
returns-clause-lawful c =
    let kept = c.loop-p.invariant in
    record {
      places = kept.long;
      lawful =
          everywhere (λ (k : ℕ) (x : Seen). IsLawful x) c.loop-p.places 64 (omega (arith, kept.long))
          (λ k below. kept.lawful k (omega arith))
          (λ k past. tt);
    }
