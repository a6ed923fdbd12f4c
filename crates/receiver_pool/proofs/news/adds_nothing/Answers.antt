use Rattle.std.proofs.Common.{ℕ, true, ◌||◌, refl, sym, ◌∙◌}
use Rattle.std.proofs.Math.Bool.{or-false}
use Rattle.std.proofs.lemmas.Bool.{or_left}
use Rattle.std.proofs.lemmas.Bool.Decides.{Decides-eqb}
use Rattle.std.proofs.lemmas.Slice.Eq.{slice_eq-Decides}
use Rattle.slot_evidence.specs.Facts.{Symbols, Facts, no_facts, union}
use Rattle.slot_evidence.specs.Sheet.{IsEnds, facts_in, seen_at}
use Rattle.slot_evidence.specs.Alike.{AreAlike}
use Rattle.slot_evidence.proofs.PublicLaws.{seen_by}
use Rattle.receiver_pool.proofs.Posted.{left_true, right_true, same_ends}
use Rattle.receiver_pool.proofs.news.adds_nothing.Goals as goal

-- a set that is alike another one is alike it with nothing besides
alike_alone : (S T : Symbols) (p : ℕ) → AreAlike S T → AreAlike S (λ v. T v || no_facts p v)
alike_alone S T p alike = record {
  forth = λ v has.
      let is = alike.forth v has in
      record { low = is.low; high = is.high; has_low = or_left _ _ is.has_low; has_high = or_left _ _ is.has_high; above = is.above; below = is.below };
  back = λ v has. alike.back v (sym (or-false (T v)) ∙ has);
}

pub returns : goal.returns
returns c = λ is F ends p.
    let known = c.args.known.now in
    let K : Facts = facts_in known in
    let lawful = c.sheet_is_lawful.ensures in
    let kept : IsEnds K known = record { places = lawful.places; each = λ q. seen_by (seen_at known q) (lawful.lawful q) } in
    let tests = sym is ∙ c.eq.ensures in
    let leasts = (slice_eq-Decides Decides-eqb _ _ true (left_true _ _ tests)).0 refl in
    let pasts = (slice_eq-Decides Decides-eqb _ _ true (right_true _ _ tests)).0 refl in
    let back = same_ends c.meet.new.self known (union K F) c.sheet_is_lawful-2.ensures lawful leasts pasts (c.meet.ensures K F kept ends) in
    alike_alone (λ v. K p v || F p v) (K p) p (c.ends_are_kept.ensures.sheet (union K F) known p back)
