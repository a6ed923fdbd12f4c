-- Receptions whose facts may all be posted on a board: this project's profile.
use Rattle.std.specs.Prelude.{◌≡◌, ℕ, true, List}
use Rattle.ten_unit.specs.declared.character.Element.{Element}
use Rattle.slot_evidence.specs.Facts.{facts_of_all}
use Rattle.slot_evidence.specs.Allowed.{IsAllowed}

-- whatever any of the receptions shows may be posted
abbrev pub MayAllBePosted : List (ℕ × ℕ) → List (List Element) → Type 0
MayAllBePosted facts receptions = (p v : ℕ) → facts_of_all receptions p v ≡ true → IsAllowed facts p v
