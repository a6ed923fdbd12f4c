-- What six slots in a row show. This project's own form.
use Rattle.std.specs.Prelude.{ℕ, ◌+◌, ◌*◌, ◌<◌, List, slice_index}
use Rattle.ten_unit.specs.declared.character.Element.{Element}
use Rattle.ten_unit.specs.declared.packing.Planes.{Planes}
use Rattle.ten_unit.specs.inside.Marks.{IsPlanes}
use Rattle.ten_unit.specs.inside.Symbol.{IsSymbol, stretch}

-- the symbols of the six slots of ten elements that begin with the first of these
abbrev pub AreSix : Planes → List ℕ → Type 0
AreSix planes symbols =
    (base : ℕ) (e : ℕ → Element) → IsPlanes planes.y planes.b base e
    → (k : ℕ) → k < 6 → IsSymbol (stretch e 10 (base + 10 * k)) (slice_index symbols k)
