-- Seats stay at rest, and the board at its beginning and its end.
use Rattle.std.proofs.Common.{◌≡◌, ◌≢◌, ◌⊎◌, ℕ, zero, suc, ◌<◌, ◌≤◌, List, [], ◌∷◌, length, replicate, get_or, refl, arith, ap, sym, ◌∙◌, subst, ⊎_elim, inr}
use Rattle.std.proofs.lemmas.List.{get_or-map, length-map, ext_get_or}
use mathlib.Core.Option.{some}
use lib.ListN.{get_elem?}
use Rattle.slot_evidence.specs.declared.places.Seen.{Seen}
use Rattle.slot_evidence.specs.declared.places.Seen.TheVariants as seen
use Rattle.slot_evidence.specs.Seen.{IsLawful}
use Rattle.slot_evidence.specs.Sheet.{seen_at}
use Rattle.slot_evidence.specs.TwoNumbers.{least_of, past_of, AreInOrder}
use Rattle.slot_evidence.proofs.PublicLaws.{order_met}
use Rattle.evidence_board.specs.declared.seats.TheConstants.{WHOLE}
use Rattle.evidence_board.specs.Views.{Reach, no_reach, united, kept_of, Place, blank, View, place_at, fresh, spent, given_sheet}
use Rattle.evidence_board.specs.Rule.{words_of, IsWithin, IsPlaceKept, IsKept}
use Rattle.evidence_board.specs.Steps.{uncounted, joined, new_half, both}
use Rattle.evidence_board.specs.Seats.{IsResting, IsSeated}
use Rattle.evidence_board.specs.inside.Through.{Through, LooksAt}
use Rattle.evidence_board.proofs.Folds.{lowest_alone, highest_alone, total_two}
use Rattle.evidence_board.proofs.StepKinds.{place_blank, blanks_long, each_one, place_uncounted, joined_long, joined_at}
use Rattle.evidence_board.proofs.Loads.{order_small}

-- what was posted was seen
no_further : (a : Reach) → IsWithin a a
no_further a = record { least = omega arith; past = omega arith }

pub further_still : (a b c : Reach) → IsWithin a b → IsWithin b c → IsWithin a c
further_still a b c first last = let low = first.least in let lower = last.least in let high = first.past in let higher = last.past in record { least = omega arith; past = omega arith }

both_within : (a b c d : Reach) → IsWithin a c → IsWithin b d → IsWithin (united a b) (united c d)
both_within a b c d left right = let low = left.least in let lower = right.least in let high = left.past in let higher = right.past in record { least = omega arith; past = omega arith }

abbrev Saw : Place → Type 0
Saw place = IsWithin place.given place.seen

pub fresh_seated : (share : ℕ) → 1 ≤ share → IsSeated (fresh share)
fresh_seated share alive = record {
  alive = alive;
  size = blanks_long;
  rest = record {
    given = λ p below. subst (λ (c : Place). IsResting c.given) (sym (place_blank p)) refl;
    seen = λ p below. subst (λ (c : Place). IsResting c.seen) (sym (place_blank p)) refl;
  };
  within = λ p below. subst Saw (sym (place_blank p)) (no_further no_reach);
}

pub lawful_order : (x : Seen) → IsLawful x → AreInOrder (least_of x) (past_of x)
lawful_order x lawful = grind arith

pub united_rests : (a b : Reach) → IsResting a → IsResting b → IsResting (united a b)
united_rests a b left right = order_met a.least a.past b.least b.past left right

pub small_at : (view : View) (p : ℕ) → IsSeated view → p < 64 → ((place_at view p).given.least ≤ 128) × ((place_at view p).seen.least ≤ 128)
small_at view p seated below = ((order_small _ _ (seated.rest.given p below)).0, (order_small _ _ (seated.rest.seen p below)).0)

pub looked_seated : (facts : List (ℕ × ℕ)) (before after : View) → IsSeated before → Through (LooksAt facts) before after 64 → IsSeated after
looked_seated facts before after seated through = grind arith

pub new_place : (v : View) (p : ℕ) → length v.places ≡ 64 → p < 64 → place_at (new_half v) p ≡ uncounted (place_at v p)
new_place v p size below = place_uncounted v p (omega arith)

pub new_seated : (v : View) → IsSeated v → 2 ≤ v.share → IsSeated (new_half v)
new_seated v seated enough = record {
  alive = omega arith;
  size = length-map v.places uncounted ∙ seated.size;
  rest = record {
    given = λ p below. subst (λ (c : Place). IsResting c.given) (sym (new_place v p seated.size below)) (seated.rest.given p below);
    seen = λ p below. subst (λ (c : Place). IsResting c.seen) (sym (new_place v p seated.size below)) (seated.rest.seen p below);
  };
  within = λ p below. subst Saw (sym (new_place v p seated.size below)) (seated.within p below);
}

pub both_place : (a b : View) (p : ℕ) → length a.places ≡ 64 → length b.places ≡ 64 → p < 64 → place_at (both a b) p ≡ joined (place_at a p) (place_at b p)
both_place a b p left right below = joined_at a.places b.places p (omega arith) (omega arith)

pub both_seated : (a b : View) → IsSeated a → IsSeated b → IsSeated (both a b)
both_seated a b left right =
    let alive = left.alive in
    record {
      alive = omega arith;
      size = joined_long a.places b.places (left.size ∙ sym right.size) ∙ left.size;
      rest = record {
        given = λ p below. subst (λ (c : Place). IsResting c.given) (sym (both_place a b p left.size right.size below)) (united_rests _ _ (left.rest.given p below) (right.rest.given p below));
        seen = λ p below. subst (λ (c : Place). IsResting c.seen) (sym (both_place a b p left.size right.size below)) (united_rests _ _ (left.rest.seen p below) (right.rest.seen p below));
      };
      within = λ p below. subst Saw (sym (both_place a b p left.size right.size below))
          (both_within (place_at a p).given (place_at b p).given (place_at a p).seen (place_at b p).seen (left.within p below) (right.within p below));
    }

-- an empty board
blank_kept : (facts : List (ℕ × ℕ)) (p : ℕ) (words : Reach) (view : View) → words ≡ no_reach → place_at view p ≡ blank → IsPlaceKept facts p words (view ∷ [])
blank_kept facts p words view is at = grind arith

pub opening_kept : (facts : List (ℕ × ℕ)) (words : List ℕ) → length words ≡ 128 → ((p : ℕ) → p < 64 → words_of words p ≡ no_reach) → IsKept facts words (fresh WHOLE ∷ [])
opening_kept facts words size empty = record {
  size = size;
  sizes = each_one (λ view. length view.places ≡ 64) (fresh WHOLE) blanks_long;
  places = λ p below. blank_kept facts p (words_of words p) (fresh WHOLE) (empty p below) (place_blank p);
  shares = omega arith;
  alive = each_one (λ view. (view ≡ spent) ⊎ (1 ≤ view.share)) (fresh WHOLE) (inr (omega arith));
}

-- the words of an empty board
pub zeros : (n q : ℕ) → ◌≡◌ {A = ℕ} (get_or (replicate n 0) q 0) 0
zeros zero q = refl
zeros (suc n) zero = refl
zeros (suc n) (suc q) = zeros n q

-- all shares are in one seat: the words are what it gave
others_spent : (facts : List (ℕ × ℕ)) (words : List ℕ) (views : List View) (id : ℕ) (v : View) → IsKept facts words views → get_elem? views id ≡ some v → v.share ≡ WHOLE → (j : ℕ) (w : View) → j ≢ id → get_elem? views j ≡ some w → w ≡ spent
others_spent facts words views id v kept at whole j w apart there =
    let two = total_two views j id v w apart at there in
    let all = kept.shares in
    ⊎_elim (λ is. is) (λ some_there. absurd (omega arith)) (kept.alive j w there)

pub whole_gives : (facts : List (ℕ × ℕ)) (words : List ℕ) (views : List View) (id : ℕ) (v : View) → IsKept facts words views → get_elem? views id ≡ some v → v.share ≡ WHOLE → IsSeated v → (p : ℕ) → p < 64 → words_of words p ≡ (place_at v p).given
whole_gives facts words views id v kept at whole seated p below =
    let place = kept.places p below in
    let empty = λ (j : ℕ) (w : View) (apart : j ≢ id) (there : get_elem? views j ≡ some w).
    ap (λ (u : View). place_at u p) (others_spent facts words views id v kept at whole j w apart there) ∙ place_blank p
    in
    let least : (words_of words p).least ≡ (place_at v p).given.least =
    place.least ∙ lowest_alone p views id v at (small_at v p seated below).0 (λ j w apart there. ap (λ (c : Place). c.given.least) (empty j w apart there))
    in
    let past : (words_of words p).past ≡ (place_at v p).given.past =
    place.greatest ∙ highest_alone p views id v at (λ j w apart there. ap (λ (c : Place). c.given.past) (empty j w apart there))
    in
    λ i. record { least = least i; past = past i }

-- so it saw no more
pub whole_sees : (facts : List (ℕ × ℕ)) (words : List ℕ) (views : List View) (id : ℕ) (v : View) → IsKept facts words views → get_elem? views id ≡ some v → v.share ≡ WHOLE → IsSeated v → (p : ℕ) → p < 64 → IsWithin (place_at v p).seen (place_at v p).given
whole_sees facts words views id v kept at whole seated p below =
    subst (λ (reach : Reach). IsWithin (place_at v p).seen reach) (whole_gives facts words views id v kept at whole seated p below)
    ((kept.places p below).fits id v at).seen_within

pub is_given_sheet : (sheet : List Seen) (v : View) → length sheet ≡ 64 → length v.places ≡ 64 → ((p : ℕ) → p < 64 → seen_at sheet p ≡ kept_of (place_at v p).given) → sheet ≡ given_sheet v
is_given_sheet sheet v size places each =
    ext_get_or seen.None sheet (given_sheet v) (size ∙ sym (length-map v.places (λ place. kept_of place.given) ∙ places))
    (λ p below. each p (omega arith) ∙ sym (get_or-map (λ place. kept_of place.given) v.places p blank seen.None (omega arith)))
