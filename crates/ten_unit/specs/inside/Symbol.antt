-- A symbol as one number, with 128 for none. This project's own form.
use Rattle.std.specs.Prelude.{◌≡◌, ℕ, zero, suc, ◌+◌, ◌<◌, ◌≤◌, ◌==◌, List, [], ◌∷◌}
use Rattle.ten_unit.specs.declared.character.Element.{Element}
use Rattle.ten_unit.specs.Word.{is_word}

-- the symbol whose word the elements are, and 128 where they are no symbol's word
pub record IsSymbol (w : List Element) (symbol : ℕ) : Type 0 where
  pub within : symbol ≤ 128
  pub shown : (v : ℕ) → v < 128 → is_word w v ≡ (v == symbol)

-- so many elements from a place on
unfoldable pub stretch : (ℕ → Element) → ℕ → ℕ → List Element
stretch e zero p = []
stretch e (suc n) p = e p ∷ stretch e n (p + 1)
