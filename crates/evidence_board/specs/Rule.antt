-- The board's rule, which holds between any two steps: this project's profile.
use Rattle.std.specs.Prelude.{◌≡◌, ℕ, suc, ◌+◌, ◌<◌, ◌≤◌, ◌⊎◌, min, max, List, [], ◌∷◌, length, slice_index}
use mathlib.Core.Option.{some}
use lib.ListN.{get_elem?}
use Rattle.slot_evidence.specs.Allowed.{IsAllowed}
use Rattle.evidence_board.specs.declared.seats.TheConstants.{WHOLE}
use Rattle.evidence_board.specs.Views.{Reach, Place, View, place_at, spent}

-- the two words of a place: its least symbol, 128 for none; and, 64 words later, the number after its greatest, 0 for
-- none
abbrev pub words_of : List ℕ → ℕ → Reach
words_of words p = record { least = slice_index words p; past = slice_index words (64 + p) }

-- the least symbol that any seat posted at a place
abbrev pub lowest : ℕ → List View → ℕ
lowest p [] = 128
lowest p (view ∷ views) = min (place_at view p).given.least (lowest p views)

-- the number after the greatest that any seat posted there
abbrev pub highest : ℕ → List View → ℕ
highest p [] = 0
highest p (view ∷ views) = max (place_at view p).given.past (highest p views)

-- the shares of all seats together
abbrev pub total : List View → ℕ
total [] = 0
total (view ∷ views) = view.share + total views

-- the view of each seat
abbrev pub Each : (View → Type 0) → List View → Type 0
Each P views = (seat : ℕ) (view : View) → get_elem? views seat ≡ some view → P view

-- the one reaches no further than the other
pub record IsWithin (inner outer : Reach) : Type 0 where
  pub least : outer.least ≤ inner.least
  pub past : inner.past ≤ outer.past

-- where there is a greatest symbol, the least word is no greater
abbrev pub IsMet : Reach → Reach → Type 0
IsMet words reach = 0 < reach.past → words.least < reach.past

-- what a seat posted it saw, and it saw no more than the words say
pub record Fits (words : Reach) (place : Place) : Type 0 where
  pub given_within : IsWithin place.given place.seen
  pub seen_within : IsWithin place.seen words
  pub given_met : IsMet words place.given
  pub seen_met : IsMet words place.seen

-- the symbols may be posted
pub record AreAllowed (facts : List (ℕ × ℕ)) (p : ℕ) (reach : Reach) : Type 0 where
  pub least : reach.least < 128 → IsAllowed facts p reach.least
  pub greatest : (v : ℕ) → reach.past ≡ suc v → IsAllowed facts p v

-- the rule at one place
pub record IsPlaceKept (facts : List (ℕ × ℕ)) (p : ℕ) (words : Reach) (views : List View) : Type 0 where
  pub least : words.least ≡ lowest p views
  pub greatest : words.past ≡ highest p views
  pub fits : Each (λ view. Fits words (place_at view p)) views
  pub allowed : AreAllowed facts p words
  pub given_allowed : Each (λ view. AreAllowed facts p (place_at view p).given) views
  pub seen_allowed : Each (λ view. AreAllowed facts p (place_at view p).seen) views

-- the rule: each place's words are the ends of what the seats posted, and the shares of all seats are the whole one
pub record IsKept (facts : List (ℕ × ℕ)) (words : List ℕ) (views : List View) : Type 0 where
  pub size : length words ≡ 128
  pub sizes : Each (λ view. length view.places ≡ 64) views
  pub places : (p : ℕ) → p < 64 → IsPlaceKept facts p (words_of words p) views
  pub shares : total views ≡ WHOLE
  pub alive : Each (λ view. (view ≡ spent) ⊎ (1 ≤ view.share)) views
