-- What receptions show may be posted where it is allowed, and so may the sheet of any part of it.
use Rattle.std.proofs.Common.{◌≡◌, ℕ, zero, suc, ◌<◌, ◌&&◌, ◌||◌, Bool, true, false, List, length, map, replicate, get_or, refl, arith, ap, sym, ◌∙◌, subst, inl, inr}
use Rattle.std.proofs.lemmas.Bool.{cases_lt, or_cases, or_left, or_right, and_from, and_parts}
use Rattle.std.proofs.lemmas.List.{get_or-map, get_or_past, get_or-replicate, length-replicate}
use Rattle.plain_laws.proofs.Tests.{or_false_right}
use Rattle.ten_unit.specs.declared.character.Element.{Element}
use Rattle.slot_evidence.specs.declared.places.Seen.{Seen}
use Rattle.slot_evidence.specs.declared.places.Seen.TheVariants as seen
use Rattle.slot_evidence.specs.Facts.{Symbols, Facts, facts_of_all, union}
use Rattle.slot_evidence.specs.Seen.{ShowsNone, IsSeen, IsLawful}
use Rattle.slot_evidence.specs.Sheet.{IsSheet, IsEnds, seen_at, facts_in}
use Rattle.slot_evidence.specs.TwoNumbers.{least_of, past_of}
use Rattle.slot_evidence.specs.Alike.{AreAlike}
use Rattle.slot_evidence.specs.Allowed.{IsAllowed, OnlyAllowed}
use Rattle.slot_evidence.proofs.PublicLaws.{IsEnds-same, all_small, kept_shown, flip_alike}
use Rattle.evidence_board.specs.Facts.{all_facts}
use Rattle.receiver_pool.specs.Posting.{MayAllBePosted}
use Rattle.receiver_pool.specs.inside.Turns.{is_turn, taken, nth, part}
use Rattle.evidence_board.proofs.PublicLaws.{every_fact}
use Rattle.receiver_pool.proofs.Parts.{turn_yes, part_all}

-- the part of some is among the part of all
taken_among : (takes more : ℕ → Bool) (F : ℕ → Facts) (n p v : ℕ) → ((i : ℕ) → more i ≡ true) → taken takes F n p v ≡ true → taken more F n p v ≡ true
taken_among takes more F zero p v all is = is
taken_among takes more F (suc n) p v all is =
    elim (or_cases _ _ is) [
      | inl earlier ↦ or_left _ _ (taken_among takes more F n p v all earlier)
      | inr here ↦ or_right (taken more F n p v) _ (and_from _ _ (all n) (and_parts _ _ here).1)
    ]

pub part_among : (takes : ℕ → Bool) (list : List (List Element)) (p v : ℕ) → part takes list (length list) p v ≡ true → facts_of_all list p v ≡ true
part_among takes list p v is =
    sym (part_all 1 list p v (omega arith))
    ∙ taken_among takes (is_turn 1 0 1) (nth list) (length list) p v (λ i. turn_yes 1 0 1 i (omega arith) (omega arith)) is

pub sheet_among : (facts : List (ℕ × ℕ)) (F : Facts) (sheet : List Seen) → IsEnds F sheet → ((p v : ℕ) → F p v ≡ true → IsAllowed facts p v) → OnlyAllowed facts sheet
sheet_among facts F sheet ends among p v is = among p v (kept_shown (F p) (seen_at sheet p) v (ends.each p) is)

pub all_may : (list : List (List Element)) → MayAllBePosted all_facts list
all_may list p v is = let small = all_small list p v is in every_fact p v small.0 small.1

-- a sheet with the least symbols of the empty one keeps nothing
none_kept : (x : Seen) → IsLawful x → least_of x ≡ 128 → x ≡ seen.None
none_kept seen.None lawful is = refl
none_kept (seen.One v) lawful is = absurd (omega (arith, lawful, is))
none_kept (seen.Differ a b) lawful is = absurd (omega (arith, lawful, is))

blank_least : (blank : List Seen) (p : ℕ) → p < 64 → blank ≡ replicate 64 seen.None → get_or (map least_of blank) p 0 ≡ 128
blank_least blank p below is =
    ap (λ (s : List Seen). get_or (map least_of s) p 0) is
    ∙ get_or-map least_of (replicate 64 seen.None) p seen.None 0 (omega (arith, length-replicate 64 seen.None))
    ∙ ap least_of (get_or-replicate 64 p seen.None seen.None below)

pub left_true : (a b : Bool) → true ≡ (a && b) → true ≡ a
left_true true b is = refl
left_true false b is = is

pub right_true : (a b : Bool) → true ≡ (a && b) → true ≡ b
right_true true b is = is
right_true false b is = absurd cc

-- lawful places with the same numbers are the same
one_place : (x y : Seen) → IsLawful x → IsLawful y → least_of x ≡ least_of y → past_of x ≡ past_of y → x ≡ y
one_place seen.None seen.None a b least past = refl
one_place seen.None (seen.One w) a b least past = absurd (omega (arith, b, least))
one_place seen.None (seen.Differ c d) a b least past = absurd (omega (arith, b.0, b.1, least))
one_place (seen.One v) seen.None a b least past = absurd (omega (arith, a, least))
one_place (seen.One v) (seen.One w) a b least past = ap (λ (n : ℕ). seen.One n) least
one_place (seen.One v) (seen.Differ c d) a b least past = absurd (omega (arith, b.0, least, past))
one_place (seen.Differ c d) seen.None a b least past = absurd (omega (arith, a.0, a.1, least))
one_place (seen.Differ c d) (seen.One w) a b least past = absurd (omega (arith, a.0, least, past))
one_place (seen.Differ c d) (seen.Differ e f) a b least past =
    let greatest : d ≡ f = omega (arith, past) in
    ap (λ (n : ℕ). seen.Differ n d) least ∙ ap (λ (n : ℕ). seen.Differ e n) greatest

-- and sheets
pub same_ends : (s t : List Seen) (F : Facts) → IsSheet s → IsSheet t → map least_of s ≡ map least_of t → map past_of s ≡ map past_of t → IsEnds F s → IsEnds F t
same_ends s t F one other leasts pasts ends = record {
  places = other.places;
  each = λ p. elim (cases_lt p 64) [
    | inl below ↦
        let inside_s : p < length s = omega (arith, one.places, below) in
        let inside_t : p < length t = omega (arith, other.places, below) in
        subst (λ (x : Seen). IsSeen (F p) x)
        (one_place (seen_at s p) (seen_at t p) (one.lawful p) (other.lawful p)
        (sym (get_or-map least_of s p seen.None 0 inside_s) ∙ ap (λ (l : List ℕ). get_or l p 0) leasts ∙ get_or-map least_of t p seen.None 0 inside_t)
        (sym (get_or-map past_of s p seen.None 0 inside_s) ∙ ap (λ (l : List ℕ). get_or l p 0) pasts ∙ get_or-map past_of t p seen.None 0 inside_t))
        (ends.each p)
    | inr above ↦
        subst (λ (x : Seen). IsSeen (F p) x)
        (get_or_past s p seen.None (omega (arith, one.places)) ∙ sym (get_or_past t p seen.None (omega (arith, other.places))))
        (ends.each p)
  ];
}

-- sets with the same ends have unions with the same ends
pub alike_posted : ((S T : Symbols) (x : Seen) → AreAlike S T → IsSeen S x → IsSeen T x) → ((S : Symbols) → AreAlike S S)
    → ((S T U V : Symbols) → AreAlike S T → AreAlike U V → AreAlike (λ v. S v || U v) (λ v. T v || V v))
    → ((F : Facts) (sheet : List Seen) (p : ℕ) → IsEnds F sheet → AreAlike (F p) (facts_in sheet p))
    → (F P Q : Facts) (sheet given : List Seen) → IsEnds P sheet → IsEnds Q sheet → IsEnds (union F P) given → IsEnds (union F Q) given
alike_posted kept itself unions of_sheet F P Q sheet given ends other was = record {
  places = was.places;
  each = λ p.
      let middle = kept (λ v. F p v || P p v) (λ v. F p v || facts_in sheet p v) (seen_at given p) (unions (F p) (F p) (P p) (facts_in sheet p) (itself (F p)) (of_sheet P sheet p ends)) (was.each p) in
      kept (λ v. F p v || facts_in sheet p v) (λ v. F p v || Q p v) (seen_at given p) (unions (F p) (F p) (facts_in sheet p) (Q p) (itself (F p)) (flip_alike (Q p) (facts_in sheet p) (of_sheet Q sheet p other))) middle;
}

-- nothing is posted of it
pub nothing_posted : (sheet blank given : List Seen) (F G : Facts) → IsSheet sheet → blank ≡ replicate 64 seen.None → map least_of sheet ≡ map least_of blank
    → IsEnds F given → IsEnds G sheet → IsEnds (union F G) given
nothing_posted sheet blank given F G lawful is same f g =
    IsEnds-same F (union F G) given (λ p v. sym (or_false_right (F p v) (G p v) (none p v))) f
  where
    none : (p : ℕ) → ShowsNone (G p)
    none p =
        elim (cases_lt p 64) [
          | inl below ↦
              subst (λ (x : Seen). IsSeen (G p) x)
              (none_kept (seen_at sheet p) (lawful.lawful p)
              (sym (get_or-map least_of sheet p seen.None 0 (omega (arith, lawful.places)))
              ∙ ap (λ (s : List ℕ). get_or s p 0) same ∙ blank_least blank p below is))
              (g.each p)
          | inr above ↦ subst (λ (x : Seen). IsSeen (G p) x) (get_or_past sheet p seen.None (omega (arith, g.places))) (g.each p)
        ]
