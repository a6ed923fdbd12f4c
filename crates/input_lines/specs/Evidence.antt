-- The texts of evidence: this project's profile.
use Rattle.std.specs.Prelude.{ℕ, zero, suc, true, List, [], ◌∷◌, ◌++◌}
use Rattle.slot_evidence.specs.declared.places.Seen.{Seen}
use Rattle.slot_evidence.specs.declared.places.Seen.TheVariants as seen
use Rattle.slot_evidence.specs.Sheet.{seen_at}
use Rattle.input_lines.specs.ReceiverLine.{text_of_evidence}

-- the pairs of a place: none, that of its one symbol, or those of the least and of the greatest
abbrev pub pairs_at : ℕ → Seen → List (ℕ × ℕ)
pairs_at place seen.None = []
pairs_at place (seen.One symbol) = (place, symbol) ∷ []
pairs_at place (seen.Differ least greatest) = (place, least) ∷ (place, greatest) ∷ []

-- the pairs of a sheet's first places, by rising place
unfoldable pub pairs_below : ℕ → List Seen → List (ℕ × ℕ)
pairs_below zero sheet = []
pairs_below (suc place) sheet = pairs_below place sheet ++ pairs_at place (seen_at sheet place)

-- a group's evidence, without the end of its line: the pairs of all 64 places
abbrev pub evidence_text : ℕ → List Seen → List ℕ
evidence_text group sheet = text_of_evidence true group (pairs_below 64 sheet)
