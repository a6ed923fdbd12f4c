-- Elements that are kept as bits, 64 of them in two words. This project's own form.
use Rattle.std.specs.Prelude.{ℕ, ◌*◌, ◌/◌, ◌%◌, ◌<◌, ◌≤◌, ◌==◌, if◌then◌else◌, List, length, map, slice_index_or}
use Rattle.std.specs.Int.{bit_at}
use Rattle.std.specs.List.{range_with_len}
use Rattle.ten_unit.specs.declared.character.Element.{Element}
use Rattle.ten_unit.specs.declared.character.Element.TheVariants.{Y, B, Lost}
use Rattle.ten_unit.specs.declared.packing.Planes.{Planes}
use Rattle.ten_unit.specs.inside.Marks.{IsPlanes}

-- the element of its bits in both words
abbrev pub element_of_bits : (y b : ℕ) → Element
element_of_bits y b = if y == 1 then Y else (if b == 1 then B else Lost)

-- two words of no bits
abbrev pub no_planes : Planes
no_planes = record { y = 0; b = 0 }

-- the element with this number
abbrev pub element_in : List Planes → ℕ → Element
element_in planes i =
    let here = slice_index_or planes (i / 64) no_planes in
    element_of_bits (bit_at here.y (i % 64)) (bit_at here.b (i % 64))

-- so many first elements
unfoldable pub elements_in : List Planes → ℕ → List Element
elements_in planes n = map (element_in planes) (range_with_len 0 n)

-- the words keep these elements, and lost ones after the last
pub record Keep (planes : List Planes) (e : List Element) : Type 0 where
  pub room : length e ≤ 64 * length planes
  pub each : (k : ℕ) → k < length planes → IsPlanes (slice_index_or planes k no_planes).y (slice_index_or planes k no_planes).b (64 * k) (λ p. slice_index_or e p Lost)
