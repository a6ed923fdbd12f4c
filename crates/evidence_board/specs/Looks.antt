-- A look at a board: this project's profile.
use Rattle.std.specs.Prelude.{◌≡◌, ℕ, zero, suc, ◌+◌, List}
use Rattle.evidence_board.specs.Views.{Place}
use Rattle.evidence_board.specs.Rule.{IsWithin, AreAllowed}

-- how often least words were loaded after one look more: once more where the greatest word that was loaded wasn't empty
abbrev pub lows_after : ℕ → ℕ → ℕ
lows_after lows zero = lows
lows_after lows (suc greatest) = lows + 1

-- a look at one place: the greatest word was loaded, and after it the least where the greatest wasn't empty; what the
-- seat saw is what it saw before or more, and may be posted
pub record IsLooked (facts : List (ℕ × ℕ)) (p : ℕ) (before after : Place) : Type 0 where
  pub given : after.given ≡ before.given
  pub loads : after.loads ≡ before.loads + 1
  pub lows : after.lows ≡ lows_after before.lows after.seen.past
  pub no_less : IsWithin before.seen after.seen
  pub allowed : AreAllowed facts p after.seen
