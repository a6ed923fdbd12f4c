-- Every place below 64 with every symbol below 128 is listed.
use Rattle.std.proofs.Common.{◌≡◌, ℕ, zero, suc, ◌+◌, ◌<◌, ◌≤◌, true, List, [], ◌∷◌, map, flat_map, refl, arith, ap, sym, ◌∙◌, subst, inl, inr, Contains}
use Rattle.std.specs.List.{range_with_len}
use Rattle.std.proofs.lemmas.Bool.{cases_eq, cases_lt}
use Rattle.std.proofs.lemmas.List.{get_or_past}
use Rattle.std.proofs.lemmas.List.Elements.{Contains-append_left, Contains-append_right}
use Rattle.slot_evidence.specs.declared.places.Seen.{Seen}
use Rattle.slot_evidence.specs.declared.places.Seen.TheVariants as seen
use Rattle.slot_evidence.specs.Seen.{IsLawful, symbols_in}
use Rattle.slot_evidence.specs.Sheet.{IsSheet, seen_at, facts_in}
use Rattle.slot_evidence.specs.Allowed.{IsAllowed, OnlyAllowed}
use Rattle.evidence_board.specs.Facts.{all_facts}

module _ {X : Type 0} (F : ℕ → X) where
  listed : (k from n : ℕ) → from ≤ k → k < from + n → Contains (map F (range_with_len from n)) (F k)
  listed k from zero above below = absurd (omega arith)
  listed k from (suc n) above below =
      elim (cases_eq k from) [
        | inl here ↦ subst (λ (j : ℕ). Contains (map F (range_with_len from (suc n))) (F j)) (sym here) (0, omega arith, refl)
        | inr other ↦ Contains-append_right (F from ∷ []) (map F (range_with_len (from + 1) n)) (F k) (listed k (from + 1) n (omega arith) (omega arith))
      ]

module _ {X : Type 0} (F : ℕ → List X) where
  gathered : (x : X) (k from n : ℕ) → from ≤ k → k < from + n → Contains (F k) x → Contains (flat_map F (range_with_len from n)) x
  gathered x k from zero above below held = absurd (omega arith)
  gathered x k from (suc n) above below held =
      elim (cases_eq k from) [
        | inl here ↦ Contains-append_left (F from) (flat_map F (range_with_len (from + 1) n)) x (subst (λ (j : ℕ). Contains (F j) x) here held)
        | inr other ↦ Contains-append_right (F from) (flat_map F (range_with_len (from + 1) n)) x (gathered x k (from + 1) n (omega arith) (omega arith) held)
      ]

pub every_fact : (p v : ℕ) → p < 64 → v < 128 → IsAllowed all_facts p v
unfolding all_facts
every_fact p v place symbol = record {
  place = place;
  symbol = symbol;
  listed = gathered (λ (q : ℕ). map (λ (w : ℕ). (q, w)) (range_with_len 0 128)) (p, v) p 0 64 (omega arith) (omega arith) (listed (λ (w : ℕ). (p, w)) v 0 128 (omega arith) (omega arith));
}

-- a lawful sheet names places and symbols that there are
pub symbol_small : (x : Seen) (v : ℕ) → IsLawful x → symbols_in x v ≡ true → v < 128
symbol_small x v lawful is = grind arith

pub place_small : (sheet : List Seen) (p v : ℕ) → IsSheet sheet → facts_in sheet p v ≡ true → p < 64
place_small sheet p v lawful is =
    elim (cases_lt p 64) [
      | inl below ↦ below
      | inr above ↦
          let none : seen_at sheet p ≡ seen.None = get_or_past sheet p seen.None (omega (arith, lawful.places)) in
          let never = ap (λ (x : Seen). symbols_in x v) (sym none) ∙ is in
          absurd (cc)
    ]

pub all_allowed : (sheet : List Seen) → IsSheet sheet → OnlyAllowed all_facts sheet
all_allowed sheet lawful p v is = every_fact p v (place_small sheet p v lawful is) (symbol_small (seen_at sheet p) v (lawful.lawful p) is)
