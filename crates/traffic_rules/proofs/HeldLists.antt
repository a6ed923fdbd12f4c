-- the sixteen places after one entry more
use native.Mathlib.Omega.{arith}
use Rattle.std.proofs.Common.{◌≡◌, ℕ, ◌≤◌, ◌==◌, true, false, Some, None, ◌∷◌, refl, sym, ◌∙◌}
use Rattle.std.specs.Prelude.{[], map, replicate}
use Rattle.std.proofs.lemmas.Bool.{eq-eqb, ne_eqb}
use Rattle.traffic_rules.specs.declared.held.Holding.{Holding}
use Rattle.traffic_rules.specs.Histories.{Entry, History}
use Rattle.traffic_rules.specs.Holding.{with_place, calls_held}
use Rattle.traffic_rules.specs.Occurrences.{Occurrence, is_tick}
use Rattle.traffic_rules.specs.HeldTold.{begun_by, begins, ends, held_told, all_held}
use Rattle.traffic_rules.specs.Repeating.{ticked}
use Rattle.traffic_rules.proofs.Places.{same_places, set_place, mapped, held_at_most}
use Rattle.traffic_rules.proofs.HeldAfter.{gives_up, silent, shuts, starts, passes}

-- before its first event a station holds nothing
pub nothing_held : {What : Type 0} (occurs : What → Occurrence) → all_held occurs [] ≡ replicate 16 None
unfolding all_held
nothing_held occurs = refl

-- and it never holds more than sixteen calls
pub sixteen_held : {What : Type 0} (occurs : What → Occurrence) (h : History What) → calls_held (all_held occurs h) ≤ 16
unfolding all_held
sixteen_held occurs h = held_at_most (held_told occurs h) 1 16

module _ {What : Type 0} (occurs : What → Occurrence) (e : Entry What) (h : History What) where
  -- an entry that mentions no number, and is no tick, leaves all
  pub none_changed : ((k : ℕ) → begins occurs k e ≡ false) → ((k : ℕ) → ends occurs k e ≡ false) → is_tick (occurs e.what) ≡ false
      → all_held occurs (e ∷ h) ≡ all_held occurs h
  unfolding all_held
  none_changed no_begin no_end quiet =
      same_places (held_told occurs (e ∷ h)) (held_told occurs h) 1 16 (λ k low high. silent occurs e h k (no_begin k) (no_end k) quiet)

  -- an entry begins to hold a call under a number, and mentions no other
  pub one_begun : (n : ℕ) (x : Holding) → 1 ≤ n → n ≤ 16 → ((k : ℕ) → begins occurs k e ≡ (n == k)) → ((k : ℕ) → ends occurs k e ≡ false)
      → is_tick (occurs e.what) ≡ false → begun_by (occurs e.what) e.at e.acts ≡ Some x → all_held occurs (e ∷ h) ≡ with_place (all_held occurs h) n (Some x)
  unfolding all_held
  one_begun n x low high begin no_end quiet begun =
      set_place (held_told occurs h) (held_told occurs (e ∷ h)) n (Some x) low high
      (starts occurs e h n (begin n ∙ eq-eqb n n refl) (no_end n) ∙ begun)
      (λ k above below another. silent occurs e h k (begin k ∙ ne_eqb n k (λ same. another (sym same))) (no_end k) quiet)

  -- an entry frees a number, and mentions no other
  pub one_ended : (n : ℕ) → 1 ≤ n → n ≤ 16 → ((k : ℕ) → begins occurs k e ≡ false) → ((k : ℕ) → ends occurs k e ≡ (n == k))
      → is_tick (occurs e.what) ≡ false → all_held occurs (e ∷ h) ≡ with_place (all_held occurs h) n None
  unfolding all_held
  one_ended n low high no_begin end quiet =
      set_place (held_told occurs h) (held_told occurs (e ∷ h)) n None low high
      (shuts occurs e h n (end n ∙ eq-eqb n n refl))
      (λ k above below another. silent occurs e h k (no_begin k) (end k ∙ ne_eqb n k (λ same. another (sym same))) quiet)

  -- a tick frees the numbers whose calls it gives up
  pub all_ticked : ((k : ℕ) → begins occurs k e ≡ false) → ((k : ℕ) → 1 ≤ k → k ≤ 16 → ends occurs k e ≡ gives_up e.at (held_told occurs h k))
      → is_tick (occurs e.what) ≡ true → all_held occurs (e ∷ h) ≡ map (ticked e.at) (all_held occurs h)
  unfolding all_held
  all_ticked no_begin end tick =
      mapped (held_told occurs h) (held_told occurs (e ∷ h)) (ticked e.at) 1 16
      (λ k low high. passes occurs e h k (no_begin k) tick (end k low (omega arith)))
