-- An input and its lines: this project's profile.
use Rattle.std.specs.Prelude.{◌≡◌, ℕ, Bool, true, not, List, [], ◌∷◌, ◌++◌, ◌==◌, if◌then◌else◌}
use Rattle.std.specs.List.{list_all}
use Rattle.line_grammar.specs.Bytes.{line_feed}

-- lines, each without its line feed
abbrev pub Lines : Type 0
Lines = List (List ℕ)

-- a test of bytes: whether it is inside a line
abbrev pub is_inside : ℕ → Bool
is_inside b = not (b == line_feed)

-- a byte more at the front of the first line
abbrev pub lengthened : ℕ → Lines → Lines
lengthened b [] = (b ∷ []) ∷ []
lengthened b (line ∷ lines) = (b ∷ line) ∷ lines

-- the lines of an input, cut at each line feed; bytes after the last one are a line too
unfoldable pub lines_of : List ℕ → Lines
lines_of [] = []
lines_of (b ∷ bytes) = if is_inside b then lengthened b (lines_of bytes) else [] ∷ lines_of bytes

-- these bytes are whole lines and an open end without a line feed: whatever comes after them, the input is these lines,
-- and then those that begin with the open end
pub record IsCutInto (bytes : List ℕ) (lines : Lines) (end : List ℕ) : Type 0 where
  pub is_open : list_all is_inside end ≡ true
  pub goes_on : (more : List ℕ) → lines_of (bytes ++ more) ≡ lines ++ lines_of (end ++ more)
