use Rattle.std.proofs.Common.{◌≡◌, ℕ, ◌+◌, ◌-◌, ◌<◌, ◌≤◌, Bool, true, false, not, refl, Some, List, map, take, inl, inr, ap, sym, subst, arith, ◌∙◌}
use Rattle.std.proofs.lemmas.Bool.{cases_lt}
use Rattle.std.proofs.lemmas.Int.{ints}
use Rattle.std.proofs.lemmas.List.{take-map}
use Rattle.ten_unit.specs.declared.character.Element.{Element}
use Rattle.ten_unit.specs.Signs.{element_of}
use Rattle.phasing.specs.Origin.{is_phased}
use Rattle.slot_evidence.specs.Facts.{facts_at}
use Rattle.slot_evidence.proofs.PublicLaws.{IsEnds-same}
use Rattle.long_capture.specs.Starts.{facts_from}
use Rattle.long_capture.specs.inside.Reads.{IsWindow, IsQuietFor}
use Rattle.long_capture.proofs.Near.{Laws}
use Rattle.long_capture.proofs.Cuts.{window_phased, facts_cut}
use Rattle.long_capture.proofs.scans.Scan.look.Goals as goal

-- the window that was looked at is the window
same_window : (w v e : List Element) (q : ℕ) → v ≡ w → IsWindow w e q → IsWindow v e q
same_window w v e q same window = subst (λ (l : List Element). IsWindow l e q) (sym same) window

-- the leads of the stream after the window's first one, as far as the window has none phased
quiet_after : Laws → (w e : List Element) (q next : ℕ) → IsWindow w e q → next ≤ 1408 → ((k : ℕ) → 1 ≤ k → k < next → is_phased w (k + 150) ≡ false) → IsQuietFor e (q + 1) (next - 1)
quiet_after laws w e q next window few none k below =
    let index : q + 1 + k ≡ q + (k + 1) = omega arith in
    ap (is_phased e) index ∙ sym (window_phased laws w e q (k + 1) window (omega arith)) ∙ none (k + 1) (omega arith) (omega arith)

-- and its first one
quiet_from : (e : List Element) (q count : ℕ) → is_phased e (q + 0) ≡ false → IsQuietFor e (q + 1) count → IsQuietFor e q (count + 1)
quiet_from e q count first later k below =
    elim (cases_lt k 1) as (λ _. is_phased e (q + k) ≡ false) [
      | inl here ↦
          let index : q + k ≡ q + 0 = omega arith in
          ap (is_phased e) index ∙ first
      | inr behind ↦
          let index : q + k ≡ q + 1 + (k - 1) = omega arith in
          ap (is_phased e) index ∙ later (k - 1) (omega arith)
    ]

not_true : (b : Bool) → not b ≡ true → b ≡ false
not_true true h = absurd cc
not_true false h = refl

not_false : (b : Bool) → not b ≡ false → b ≡ true
not_false true h = refl
not_false false h = absurd cc

pub returns-then-not-front-clause-looks : goal.returns-then-not-front-clause-looks
returns-then-not-front-clause-looks c = λ e q window seen.
    let laws : Laws = record { slot = c.elements_decide.ensures.slot; lead = c.elements_decide.ensures.lead; past = c.none_past_the_end.ensures } in
    let w = map element_of c.signs-window.result.now in
    let at = same_window c.args.self.now.window w e q c.signs-window.ensures.elements window in
    let front = c.search_front-front in
    quiet_from e q _ (sym (window_phased laws w e q 0 at (omega arith)) ∙ sym front.ensures.begins ∙ not_true front.result.begins c.if-not-front.true)
    (quiet_after laws w e q front.result.next at front.ensures.within front.ensures.none)

pub returns-clause-looks : goal.returns-clause-looks
returns-clause-looks c = λ e q window seen.
    let laws : Laws = record { slot = c.elements_decide.ensures.slot; lead = c.elements_decide.ensures.lead; past = c.none_past_the_end.ensures } in
    let signs = c.signs-window.result.now in
    let w = map element_of signs in
    let at = same_window c.args.self.now.window w e q c.signs-window.ensures.elements window in
    let front = c.search_front-front in
    let next = c.next_index-next.result in
    let cut : map element_of (take next signs) ≡ take next w = sym (take-map element_of next signs) in
    let here : q ≡ q + 0 = omega arith in (
      record {
        phased = ap (is_phased e) here ∙ sym (window_phased laws w e q 0 at (omega arith)) ∙ sym front.ensures.begins ∙ not_false front.result.begins c.if-not-front.false;
        origin = omega (arith, ints);
        ends = IsEnds-same _ (facts_from e q) c.sheet_at-sheet.result
            (λ p v. ap (λ (l : List Element). facts_at l (Some 150) p v) cut ∙ facts_cut laws w e q next at c.next_index-next.ensures p v) c.sheet_at-sheet.ensures;
      },
      quiet_after laws w e q front.result.next at front.ensures.within front.ensures.none,
    )
