use Rattle.std.proofs.Common.{[], ◌∷◌, refl}
use Rattle.conformance.proofs.Characters.{characters}
use Rattle.conformance.proofs.tests.expansions.expanded_line.Goals as goal

pub on_air-requires-clause-symbols : goal.on_air-requires-clause-symbols
on_air-requires-clause-symbols c =
    characters
    (112 ∷ 112 ∷ 33 ∷ 80 ∷ 40 ∷ 7 ∷ 90 ∷ 106 ∷ 14 ∷ 23 ∷ 10 ∷ 83 ∷ 12 ∷ 20 ∷ 19 ∷ 100 ∷ 127 ∷ 78 ∷ 127 ∷ 127 ∷ 100 ∷ 45 ∷ 89 ∷ 44 ∷ 94 ∷ 127 ∷ 29 ∷ 127 ∷ 127 ∷ [])
    refl
