-- Sheets that keep the same numbers.
use Rattle.std.proofs.Common.{◌≡◌, ℕ, ◌<◌, ◌&&◌, Bool, true, false, List, length, map, get_or, refl, arith, ap, sym, ◌∙◌, subst, inl, inr}
use Rattle.std.proofs.lemmas.Bool.{cases_lt}
use Rattle.std.proofs.lemmas.List.{get_or-map, get_or_past}
use Rattle.slot_evidence.specs.declared.places.Seen.{Seen}
use Rattle.slot_evidence.specs.declared.places.Seen.TheVariants as seen
use Rattle.slot_evidence.specs.Facts.{Facts}
use Rattle.slot_evidence.specs.Seen.{IsSeen, IsLawful}
use Rattle.slot_evidence.specs.Sheet.{IsSheet, IsEnds, seen_at}
use Rattle.slot_evidence.specs.TwoNumbers.{least_of, past_of}

pub left_true : (a b : Bool) → true ≡ (a && b) → true ≡ a
left_true true b is = refl
left_true false b is = is

pub right_true : (a b : Bool) → true ≡ (a && b) → true ≡ b
right_true true b is = is
right_true false b is = absurd cc

-- lawful places with the same numbers are the same
one_place : (x y : Seen) → IsLawful x → IsLawful y → least_of x ≡ least_of y → past_of x ≡ past_of y → x ≡ y
one_place seen.None seen.None a b least past = refl
one_place seen.None (seen.One w) a b least past = absurd (omega (arith, b, least))
one_place seen.None (seen.Differ c d) a b least past = absurd (omega (arith, b.0, b.1, least))
one_place (seen.One v) seen.None a b least past = absurd (omega (arith, a, least))
one_place (seen.One v) (seen.One w) a b least past = ap (λ (n : ℕ). seen.One n) least
one_place (seen.One v) (seen.Differ c d) a b least past = absurd (omega (arith, b.0, least, past))
one_place (seen.Differ c d) seen.None a b least past = absurd (omega (arith, a.0, a.1, least))
one_place (seen.Differ c d) (seen.One w) a b least past = absurd (omega (arith, a.0, least, past))
one_place (seen.Differ c d) (seen.Differ e f) a b least past =
    let greatest : d ≡ f = omega (arith, past) in
    ap (λ (n : ℕ). seen.Differ n d) least ∙ ap (λ (n : ℕ). seen.Differ e n) greatest

-- and sheets
pub same_ends : (s t : List Seen) (F : Facts) → IsSheet s → IsSheet t → map least_of s ≡ map least_of t → map past_of s ≡ map past_of t → IsEnds F s → IsEnds F t
same_ends s t F one other leasts pasts ends = record {
  places = other.places;
  each = λ p. elim (cases_lt p 64) [
    | inl below ↦
        let inside_s : p < length s = omega (arith, one.places, below) in
        let inside_t : p < length t = omega (arith, other.places, below) in
        subst (λ (x : Seen). IsSeen (F p) x)
        (one_place (seen_at s p) (seen_at t p) (one.lawful p) (other.lawful p)
        (sym (get_or-map least_of s p seen.None 0 inside_s) ∙ ap (λ (l : List ℕ). get_or l p 0) leasts ∙ get_or-map least_of t p seen.None 0 inside_t)
        (sym (get_or-map past_of s p seen.None 0 inside_s) ∙ ap (λ (l : List ℕ). get_or l p 0) pasts ∙ get_or-map past_of t p seen.None 0 inside_t))
        (ends.each p)
    | inr above ↦
        subst (λ (x : Seen). IsSeen (F p) x)
        (get_or_past s p seen.None (omega (arith, one.places)) ∙ sym (get_or_past t p seen.None (omega (arith, other.places))))
        (ends.each p)
  ];
}
