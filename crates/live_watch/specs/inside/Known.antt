-- The facts that may be posted on the board of one watch. This project's own form.
use Rattle.std.specs.Prelude.{◌≡◌, ◌↔◌, ℕ, true, List, filter}
use Rattle.ten_unit.specs.declared.character.Element.{Element}
use Rattle.slot_evidence.specs.declared.places.Seen.{Seen}
use Rattle.slot_evidence.specs.Facts.{Facts, facts_of_all, union}
use Rattle.slot_evidence.specs.Sheet.{facts_in}
use Rattle.slot_evidence.specs.Allowed.{IsAllowed}
use Rattle.evidence_board.specs.Facts.{all_facts}

-- those of a sheet and of receptions
abbrev pub known_facts : List Seen → List (List Element) → Facts
known_facts so_far list = union (facts_in so_far) (facts_of_all list)

-- a list of them
unfoldable pub listed_facts : Facts → List (ℕ × ℕ)
listed_facts F = filter (λ fact. F fact.0 fact.1) all_facts

-- exactly these facts may be posted
abbrev pub AreAllAllowed : List (ℕ × ℕ) → Facts → Type 0
AreAllAllowed facts F = (p v : ℕ) → IsAllowed facts p v ↔ (F p v ≡ true)
