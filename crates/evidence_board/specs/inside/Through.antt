-- A call that goes through the places of a board in turn. This project's own form.
use Rattle.std.specs.Prelude.{◌≡◌, ℕ, ◌<◌, ◌≤◌, List, length}
use Rattle.evidence_board.specs.Looks.{IsLooked}
use Rattle.evidence_board.specs.Seats.{IsResting}
use Rattle.evidence_board.specs.Views.{Place, View, place_at}

-- at each place below k the relation holds, and from k on nothing changed
pub record Through (R : ℕ → Place → Place → Type 0) (before now : View) (k : ℕ) : Type 0 where
  pub share : now.share ≡ before.share
  pub size : length now.places ≡ length before.places
  pub below : (p : ℕ) → p < k → R p (place_at before p) (place_at now p)
  pub above : (p : ℕ) → k ≤ p → place_at now p ≡ place_at before p

-- a look at a place, after which what the seat saw of it is at rest
pub record LooksAt (facts : List (ℕ × ℕ)) (p : ℕ) (before after : Place) : Type 0 where
  pub looked : IsLooked facts p before after
  pub rest : IsResting after.seen
