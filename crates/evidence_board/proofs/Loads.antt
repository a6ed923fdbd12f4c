-- What is loaded of a place, and what a sheet then keeps of it.
use Rattle.std.proofs.Common.{◌≡◌, ◌⊎◌, ℕ, zero, suc, ◌+◌, ◌-◌, ◌<◌, ◌≤◌, true, List, [], ◌∷◌, length, set, slice_index, get_or, refl, arith, ap, sym, ◌∙◌, subst, inl, inr}
use Rattle.std.proofs.lemmas.Bool.{cases_eq, cases_lt, or_cases, eqb-true}
use Rattle.std.proofs.lemmas.List.{get_or-set_same, get_or-set_other, get_or-map, get_or_past, set-set, length-map, ext_get_or}
use mathlib.Core.Option.{some, some-injective, some-ne-none}
use lib.ListN.{get_elem?}
use Rattle.slot_evidence.specs.declared.places.Seen.{Seen}
use Rattle.slot_evidence.specs.declared.places.Seen.TheVariants as seen
use Rattle.slot_evidence.specs.Seen.{symbols_in}
use Rattle.slot_evidence.specs.Sheet.{seen_at}
use Rattle.slot_evidence.specs.Allowed.{IsAllowed, OnlyAllowed}
use Rattle.slot_evidence.specs.TwoNumbers.{seen_between, seen_with, AreInOrder}
use Rattle.slot_evidence.proofs.PublicLaws.{one_or_differ, order_some}
use Rattle.evidence_board.specs.Views.{Place, blank, View, place_at, kept_of, seen_sheet}
use Rattle.evidence_board.specs.Rule.{words_of, AreAllowed}
use Rattle.evidence_board.specs.Steps.{loaded_least, loaded_past}
use Rattle.evidence_board.specs.Seats.{IsResting}
use Rattle.evidence_board.specs.Looks.{lows_after}
use Rattle.evidence_board.specs.inside.Tells.{Changed, IsPastFound}
use Rattle.evidence_board.specs.inside.Through.{LooksAt}

-- a least and a greatest symbol, joined into a place of which nothing was kept
two_added : (a b : ℕ) → a ≤ b → b < 128 → seen_with (seen_with seen.None a) b ≡ seen_between a (b + 1)
two_added a b order small = grind arith

pub kept_both : (old one new : List Seen) (p least past greatest : ℕ) → p < 64 → length old ≡ 64 → seen_at old p ≡ seen.None → least < past → past ≤ 128 → greatest ≡ past - 1
    → one ≡ set old p (seen_with (seen_at old p) least) → new ≡ set one p (seen_with (seen_at one p) greatest) → new ≡ set old p (seen_between least past)
kept_both old one new p least past greatest inside size unseen order small is first last =
    let here : seen_at one p ≡ seen_with seen.None least = ap (λ (s : List Seen). seen_at s p) first ∙ (get_or-set_same old p (seen_with (seen_at old p) least) seen.None (omega arith) ∙ ap (λ (x : Seen). seen_with x least) unseen) in
    let next : greatest + 1 ≡ past = omega arith in
    last
    ∙ ap (λ (x : Seen). set one p (seen_with x greatest)) here
    ∙ ap (set one p) (two_added least greatest (omega arith) (omega arith) ∙ ap (seen_between least) next)
    ∙ ap (λ (s : List Seen). set s p (seen_between least past)) first
    ∙ set-set old p (seen_with (seen_at old p) least) (seen_between least past)

pub order_small : (least past : ℕ) → AreInOrder least past → (least ≤ 128) × (past ≤ 128)
order_small least past order = grind arith

-- a number past a symbol that may be posted
pub past_small : (facts : List (ℕ × ℕ)) (p past : ℕ) → ((v : ℕ) → past ≡ suc v → IsAllowed facts p v) → past ≤ 128
past_small facts p zero lawful = omega arith
past_small facts p (suc v) lawful = let below = (lawful v refl).symbol in omega arith

lows_some : (lows past : ℕ) → (past ≡ 0 → ⊥) → lows_after lows past ≡ lows + 1
lows_some lows past some_there = grind arith

-- both words were loaded
module _ (facts : List (ℕ × ℕ)) (p past least : ℕ) (before mid after : View) (some_there : past ≡ 0 → ⊥) (loaded : Changed before p (loaded_past past (place_at before p)) mid) (first : IsPastFound facts p before past) (changed : Changed mid p (loaded_least least (place_at mid p)) after) where
  whole : place_at after p ≡ loaded_least least (loaded_past past (place_at before p))
  whole = changed.here ∙ ap (loaded_least least) loaded.here

  pub past_is : (place_at mid p).seen.past ≡ past
  past_is = ap (λ (x : Place). x.seen.past) loaded.here

  pub in_order : (0 < (place_at mid p).seen.past → least < (place_at mid p).seen.past) → (least < past) × (past ≤ 128)
  in_order met =
      let is = past_is in
      let positive : 0 < past = omega arith in
      let below = met (omega arith) in
      let small = past_small facts p past first.allowed in
      (omega arith, small)

  pub both_looked : least ≤ (place_at mid p).seen.least → (0 < (place_at mid p).seen.past → least < (place_at mid p).seen.past) → (least < 128 → IsAllowed facts p least) → LooksAt facts p (place_at before p) (place_at after p)
  both_looked less met lawful =
      let c = place_at before p in
      let same : (place_at mid p).seen.least ≡ c.seen.least = ap (λ (x : Place). x.seen.least) loaded.here in
      let more = first.no_less in
      let order = in_order met in
      subst (λ (x : Place). LooksAt facts p c x) (sym whole)
      record {
        looked = record {
          given = refl;
          loads = refl;
          lows = sym (lows_some c.lows past some_there);
          no_less = record { least = omega arith; past = more };
          allowed = record { least = lawful; greatest = first.allowed };
        };
        rest = order_some least past order.0 order.1;
      }

-- a sheet one place further
pub sheet_further : (F : ℕ → Seen) (old new : List Seen) (k : ℕ) (x : Seen) → length old ≡ 64 → k < 64 → new ≡ set old k x → x ≡ F k
    → ((p : ℕ) → p < k → seen_at old p ≡ F p) → (p : ℕ) → p < k + 1 → seen_at new p ≡ F p
sheet_further F old new k x size inside is same below p under =
    elim (cases_eq p k) [
      | inl here ↦
          ap (λ (s : List Seen). seen_at s p) is
          ∙ ap (λ (q : ℕ). seen_at (set old k x) q) here
          ∙ get_or-set_same old k x seen.None (omega arith)
          ∙ same
          ∙ ap F (sym here)
      | inr apart ↦ ap (λ (s : List Seen). seen_at s p) is ∙ get_or-set_other old k p x seen.None apart ∙ below p (omega arith)
    ]

-- a change below leaves the later places blank
pub sheet_beyond : (old new : List Seen) (k : ℕ) (x : Seen) → new ≡ set old k x → ((p : ℕ) → k ≤ p → seen_at old p ≡ seen.None) → (p : ℕ) → k + 1 ≤ p → seen_at new p ≡ seen.None
sheet_beyond old new k x is above p over = ap (λ (s : List Seen). seen_at s p) is ∙ get_or-set_other old k p x seen.None (λ e. omega arith) ∙ above p (omega arith)

-- the sheet of what a view saw
pub seen_at_view : (v : View) (p : ℕ) → p < length v.places → seen_at (seen_sheet v) p ≡ kept_of (place_at v p).seen
seen_at_view v p inside = get_or-map (λ place. kept_of place.seen) v.places p blank seen.None inside

pub is_seen_sheet : (sheet : List Seen) (v : View) → length sheet ≡ 64 → length v.places ≡ 64 → ((p : ℕ) → p < 64 → seen_at sheet p ≡ kept_of (place_at v p).seen) → sheet ≡ seen_sheet v
is_seen_sheet sheet v size places each =
    ext_get_or seen.None sheet (seen_sheet v) (size ∙ sym (length-map v.places (λ place. kept_of place.seen) ∙ places))
    (λ p below. each p (omega arith) ∙ sym (seen_at_view v p (omega arith)))

-- what is kept of symbols that may be posted may be posted
pub kept_allowed : (facts : List (ℕ × ℕ)) (p v least past : ℕ) → AreInOrder least past → AreAllowed facts p (record { least = least; past = past }) → symbols_in (seen_between least past) v ≡ true → IsAllowed facts p v
kept_allowed facts p v least zero order lawful is = absurd (cc)
kept_allowed facts p v least (suc greatest) order lawful is =
    one_or_differ least greatest (λ x. symbols_in x v ≡ true → IsAllowed facts p v)
    (λ same is_one. subst (IsAllowed facts p) (sym (eqb-true v least is_one)) (lawful.least (omega (arith, order))))
    (λ other is_two. elim (or_cases _ _ is_two) [
      | inl low ↦ subst (IsAllowed facts p) (sym (eqb-true v least low)) (lawful.least (omega (arith, order)))
      | inr high ↦ subst (IsAllowed facts p) (sym (eqb-true v greatest high)) (lawful.greatest greatest refl)
    ])
    is

pub sheet_allowed : (facts : List (ℕ × ℕ)) (v : View) → length v.places ≡ 64 → ((p : ℕ) → p < 64 → IsResting (place_at v p).seen × AreAllowed facts p (place_at v p).seen) → OnlyAllowed facts (seen_sheet v)
sheet_allowed facts v size each p symbol is =
    elim (cases_lt p 64) [
      | inl below ↦ kept_allowed facts p symbol _ _ (each p below).0 (each p below).1 (ap (λ (x : Seen). symbols_in x symbol) (sym (seen_at_view v p (omega arith))) ∙ is)
      | inr above ↦
          let none : seen_at (seen_sheet v) p ≡ seen.None = get_or_past (seen_sheet v) p seen.None (omega (arith, length-map v.places (λ place. kept_of place.seen))) in
          let never = ap (λ (x : Seen). symbols_in x symbol) (sym none) ∙ is in
          absurd (cc)
    ]

-- a number that is there, with any default
pub get_there : (l : List ℕ) (i x : ℕ) → get_elem? l i ≡ some x → get_or l i 0 ≡ x
get_there [] i x at = absurd (some-ne-none x (sym at))
get_there (y ∷ l) zero x at = some-injective y x at
get_there (y ∷ l) (suc i) x at = get_there l i x at

-- the words of a place that no thread shares any more
pub word_small : (words : List ℕ) (p n : ℕ) → IsResting (words_of words p) → (get_elem? words p ≡ some n) ⊎ (get_elem? words (64 + p) ≡ some n) → n ≤ 128
word_small words p n rest at =
    let small = order_small (slice_index words p) (slice_index words (64 + p)) rest in
    elim at [
      | inl least ↦ omega (arith, small.0, get_there words p n least)
      | inr past ↦ omega (arith, small.1, get_there words (64 + p) n past)
    ]

module _ (words : List ℕ) (p least past : ℕ) (at : get_elem? words p ≡ some least) (above : get_elem? words (64 + p) ≡ some past) where
  pub words_are : kept_of (words_of words p) ≡ seen_between least past
  words_are = ap (λ (n : ℕ). seen_between n (slice_index words (64 + p))) (get_there words p least at) ∙ ap (seen_between least) (get_there words (64 + p) past above)

  pub words_in_order : IsResting (words_of words p) → AreInOrder least past
  words_in_order rest = subst (λ (n : ℕ). AreInOrder n past) (get_there words p least at) (subst (AreInOrder (slice_index words p)) (get_there words (64 + p) past above) rest)

-- after a change of one place the sheet of what was seen below it stays
pub kept_stays : (before after : View) (sheet : List Seen) (k : ℕ) (c : Place) → Changed before k c after → ((p : ℕ) → p < k → seen_at sheet p ≡ kept_of (place_at before p).seen) → (p : ℕ) → p < k → seen_at sheet p ≡ kept_of (place_at after p).seen
kept_stays before after sheet k c changed below p under = below p under ∙ ap (λ (x : Place). kept_of x.seen) (sym (changed.others p (λ e. omega arith)))
