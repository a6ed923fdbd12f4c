-- When a step on the shared words may be made: whatever they are then, the rule stays. This project's own form.
use Rattle.std.specs.Prelude.{ℕ, ◌+◌, min, max, List}
use mathlib.Core.Option.{none}
use Rattle.atomic_table.specs.Table.{State, Me, step, Allows}
use Rattle.evidence_board.specs.Views.{View}
use Rattle.evidence_board.specs.Rule.{IsKept}
use Rattle.evidence_board.specs.inside.Tells.{posts_least, posts_past, loads_least, loads_past}

module _ (facts : List (ℕ × ℕ)) where
  -- the rule holds of the shared words and of what all seats know
  abbrev pub Keeps : State ℕ View → Type 0
  Keeps s = IsKept facts s.words s.views

  -- a seat may lower the least word of a place to a symbol
  abbrev pub MayLower : ℕ → ℕ → Me ℕ View → ℕ → ℕ → Type 0
  MayLower slots id me p v = Allows Keeps slots id me p (λ word. min word v) (posts_least (step slots p v 0 none) me)

  -- a seat may raise the greatest word of a place to a number
  abbrev pub MayRaise : ℕ → ℕ → Me ℕ View → ℕ → ℕ → Type 0
  MayRaise slots id me p n = Allows Keeps slots id me (64 + p) (λ word. max word n) (posts_past (step slots (64 + p) n 0 none) me)

  -- a seat may load the least word of a place
  abbrev pub MayLoadLeast : ℕ → ℕ → Me ℕ View → ℕ → Type 0
  MayLoadLeast slots id me p = Allows Keeps slots id me p (λ word. word) (loads_least facts (step slots p 0 0 none) me)

  -- a seat may load the greatest word of a place
  abbrev pub MayLoadPast : ℕ → ℕ → Me ℕ View → ℕ → Type 0
  MayLoadPast slots id me p = Allows Keeps slots id me (64 + p) (λ word. word) (loads_past facts (step slots (64 + p) 0 0 none) me)
