-- words that the rule keeps are those that some events leave
use native.Mathlib.Omega.{arith}
use Rattle.std.proofs.Common.{◌≡◌, ℕ, zero, suc, ◌<◌, ◌≤◌, List, [], ◌∷◌, ◌++◌, refl, ◌∙◌, subst, inl, inr}
use Rattle.std.proofs.lemmas.Bool.{cases_eq}
use Rattle.evidence_board.specs.Views.{Reach, no_reach, View}
use Rattle.evidence_board.specs.Rule.{words_of, lowest, IsKept}
use Rattle.evidence_board.specs.Events.{Event, as_least, as_greatest, words_behind, words_after}

lowest_bound : (p : ℕ) (views : List View) → lowest p views ≤ 128
lowest_bound p [] = omega arith
lowest_bound p (view ∷ views) = let rest = lowest_bound p views in omega (arith, rest)

abbrev past_event : (place past : ℕ) → List Event
past_event place zero = []
past_event place (suc v) = as_greatest place v ∷ []

module _ (f : ℕ → Reach) where
  -- a place saw its least symbol and its greatest one
  abbrev events_at : ℕ → List Event
  events_at place = as_least place (f place).least ∷ past_event place (f place).past

  -- and so did all places below this one
  abbrev events_below : ℕ → List Event
  events_below zero = []
  events_below (suc n) = events_at n ++ events_below n

  event_here : (p : ℕ) (rest : List Event) → (f p).least ≤ 128 → words_behind p (events_at p ++ rest) no_reach ≡ words_behind p rest (f p)
  event_here p rest low = grind arith

  event_apart : (p n : ℕ) (rest : List Event) (w : Reach) → (p ≡ n → ⊥) → words_behind p (events_at n ++ rest) w ≡ words_behind p rest w
  event_apart p n rest w apart = grind arith

  untouched : (n p : ℕ) (w : Reach) → n ≤ p → words_behind p (events_below n) w ≡ w
  untouched zero p w few = refl
  untouched (suc n) p w few = event_apart p n (events_below n) w (λ same. omega (arith, few, same)) ∙ untouched n p w (omega (arith, few))

  left_behind : (n p : ℕ) → p < n → (f p).least ≤ 128 → words_after (events_below n) p ≡ f p
  left_behind zero p below low = absurd (omega (arith, below))
  left_behind (suc n) p below low =
      elim (cases_eq p n) [
        | inl same ↦
            subst (λ (k : ℕ). words_behind p (events_at k ++ events_below n) no_reach ≡ f p) same
            (event_here p (events_below n) low ∙ untouched n p (f p) (omega (arith, same)))
        | inr apart ↦ event_apart p n (events_below n) no_reach apart ∙ left_behind n p (omega (arith, below, apart)) low
      ]

pub kept_words : (facts : List (ℕ × ℕ)) (words : List ℕ) (views : List View) → IsKept facts words views
    → (events : List Event) × ((p : ℕ) → p < 64 → words_after events p ≡ words_of words p)
kept_words facts words views kept = (
  events_below (words_of words) 64,
  λ p below.
      let at = (kept.places p below).least in
      let low = lowest_bound p views in
      left_behind (words_of words) 64 p below (omega (arith, at, low)),
)
