-- Lines, their languages, and the column of an ill-formed line: this project's profile.
use Rattle.std.specs.Prelude.{◌≡◌, ℕ, ◌+◌, ◌-◌, ◌<◌, ◌≤◌, List, ◌++◌, length, take, Result, Ok, Err}

-- which bytes spell which values
abbrev pub Spelling : Type 0 → Type 1
Spelling W = W → List ℕ → Type 0

-- the bytes begin a line of the language
pub record Begins {W : Type 0} (L : Spelling W) (bytes : List ℕ) : Type 0 where
  pub value : W
  pub rest : List ℕ
  pub whole : L value (bytes ++ rest)

-- the column of bytes that are no line: the least n for which the first n bytes begin no line of the language,
-- and the length plus one where they end too early
pub record IsColumn {W : Type 0} (L : Spelling W) (bytes : List ℕ) (n : ℕ) : Type 0 where
  pub is_none : (w : W) → L w bytes → ⊥
  pub before : (k : ℕ) → k < n → Begins L (take k bytes)
  pub at : n ≤ length bytes → Begins L (take n bytes) → ⊥
  pub within : n ≤ length bytes + 1

-- the answer of a reader: the one value that the bytes spell, or their column
abbrev pub ReadsAs : {W : Type 0} (L : Spelling W) (bytes : List ℕ) → Result W ℕ → Type 0
ReadsAs {W = W} L bytes (Ok w) = L w bytes × ((u : W) → L u bytes → u ≡ w)
ReadsAs L bytes (Err n) = IsColumn L bytes n

-- an answer that says how many bytes are left at the fault, with the column in their place
abbrev pub with_column : {W : Type 0} (bytes : List ℕ) → Result W ℕ → Result W ℕ
with_column bytes (Ok w) = Ok w
with_column bytes (Err left) = Err (length bytes + 1 - left)
