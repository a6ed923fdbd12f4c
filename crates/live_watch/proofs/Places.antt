-- The places of a call's list, and what a sheet shows of them.
use Rattle.std.proofs.Common.{◌≡◌, ℕ, ◌+◌, ◌<◌, true, false, ◌||◌, List, [], ◌∷◌, length, slice_index, ap, sym, ◌∙◌, inl, inr, arith}
use Rattle.std.proofs.lemmas.List.{get_or_append_left, length_push}
use Rattle.call_values.specs.declared.calls.Call.{Call}
use Rattle.call_grammar.specs.Spelling.{up_to_end, through_check, covered, check_of, end_of, spell}
use Rattle.slot_evidence.specs.Facts.{Facts}
use Rattle.live_watch.specs.Told.{IsShownAt}
use Rattle.live_watch.proofs.Sending.{spelled_long}

front_at : (c : Call) (list : List ℕ) (p : ℕ) → list ≡ spell c → p + 2 < length list → slice_index list p ≡ slice_index (through_check c) p
front_at c list p is below =
    ap (λ (l : List ℕ). slice_index l p) is
    ∙ get_or_append_left (through_check c) (end_of c ∷ end_of c ∷ []) 0 p (omega (arith, below, ap (λ (l : List ℕ). length l) is, spelled_long c))

list_long : (c : Call) (list : List ℕ) → list ≡ spell c → length list ≡ length (up_to_end c) + 3
list_long c list is = omega (arith, ap (λ (l : List ℕ). length l) is, spelled_long c, length_push (up_to_end c) (check_of (covered c)))

module _ (F : Facts) (c : Call) (list : List ℕ) (p : ℕ) (is : list ≡ spell c) (below : p + 2 < length list) where
  pub shown_here : F p (slice_index list p) ≡ true → IsShownAt F c p
  shown_here shown = inl (ap (F p) (sym (front_at c list p is below)) ∙ shown)

  pub shown_late : p + 4 ≡ length list → (F (p + 2) (end_of c) || F (p + 3) (end_of c)) ≡ true → IsShownAt F c p
  shown_late at late = inr (omega (arith, at, list_long c list is), late)

  pub hidden_late : F p (slice_index list p) ≡ false → (F (p + 2) (end_of c) || F (p + 3) (end_of c)) ≡ false → IsShownAt F c p → ⊥
  hidden_late none never (inl shown) = absurd (cc (none, ap (F p) (front_at c list p is below), shown))
  hidden_late none never (inr late) = absurd (cc (never, late.1))

  pub hidden_here : F p (slice_index list p) ≡ false → (p + 4 ≡ length list → ⊥) → IsShownAt F c p → ⊥
  hidden_here none other (inl shown) = absurd (cc (none, ap (F p) (front_at c list p is below), shown))
  hidden_here none other (inr late) = other (omega (arith, late.0, list_long c list is))
