-- What a station sends: ITU-R M.493, sections on the dot pattern and on the phasing sequence. The numbers of dots are
-- this project's profile.
use Rattle.std.specs.Prelude.{ℕ, ◌%◌, ◌==◌, Bool, if◌then◌else◌, List, ◌++◌, map, flat_map}
use Rattle.std.specs.List.{range_with_len}
use Rattle.ten_unit.specs.declared.character.Element.{Element}
use Rattle.ten_unit.specs.declared.character.Element.TheVariants.{Y, B}
use Rattle.ten_unit.specs.Word.{word_of}

-- a dot: B and Y in turn, first B
abbrev pub dot : ℕ → Element
dot n = if n % 2 == 0 then B else Y

-- so many dots
unfoldable pub dots : ℕ → List Element
dots n = map dot (range_with_len 0 n)

-- the dot pattern has 200 elements where it is long, and else 20
abbrev pub dot_count : Bool → ℕ
dot_count long = if long then 200 else 20

-- a transmission: the dot pattern, and then the words of its slots' symbols
unfoldable pub sent : List ℕ → Bool → List Element
sent slots long = dots (dot_count long) ++ flat_map word_of slots
