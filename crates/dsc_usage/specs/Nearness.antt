-- When a word is nearly a name: this project's profile.
use Rattle.std.specs.Prelude.{ℕ, ◌≤◌, ◌<◌, ◌*◌, List, [], ◌∷◌, length, codes}
use Rattle.std.specs.Str.{chars}
use Rattle.strsim.specs.Edits.{osa_table}

-- how many slips lead from one text to the other: a character too many, one too few, another one, or two that changed
-- places
abbrev pub slips : List ℕ → List ℕ → ℕ
slips word name = (osa_table (chars word) (chars name)).last_row (length (chars name))

-- no more than so many slips, and fewer than half as many as the name has bytes
abbrev pub IsNear : ℕ → List ℕ → List ℕ → Type 0
IsNear most word name = (slips word name ≤ most) × (2 * slips word name < length name)

-- the commands' names
abbrev pub command_names : List (List ℕ)
command_names = codes "join" ∷ codes "evidence" ∷ codes "watch" ∷ codes "capture" ∷ codes "encode" ∷ codes "sentences" ∷ codes "book" ∷ codes "replay"
    ∷ codes "exchange" ∷ codes "make" ∷ []
