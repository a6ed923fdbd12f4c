-- Reading of whole lists: the lists are those of ITU-R M.493, the refusals this project's profile.
use Rattle.std.specs.Prelude.{◌≡◌, ℕ, List, [], ◌∷◌, ◌++◌, ◌<◌, ◌≤◌, ◌≢◌, length, drop, slice_index, Result, Ok, Err}
use Rattle.call_values.specs.declared.calls.Call.{Call}
use Rattle.call_values.specs.Calls.{IsCall}
use Rattle.call_grammar.specs.Spelling.{spell, check_of}
use Rattle.dsc_symbols.specs.Formats.{IsFormat}
use Rattle.call_grammar.specs.Walk.{IsViable, IsAtCheck}
use Rattle.symbol_reader.specs.declared.refusals.ReadRefusal.{ReadRefusal}
use Rattle.symbol_reader.specs.declared.refusals.ReadRefusal.TheVariants.{Short, Outside, Check}

-- the list begins some call's list and is shorter
pub record IsPart (l : List ℕ) : Type 0 where
  pub call : Call
  pub next : ℕ
  pub rest : List ℕ
  pub lawful : IsCall call
  pub list : spell call ≡ l ++ (next ∷ rest)

-- the list begins with this call's list, of this length
pub record BeginsWith (l : List ℕ) (call : Call) (n : ℕ) : Type 0 where
  pub rest : List ℕ
  pub lawful : IsCall call
  pub list : l ≡ spell call ++ rest
  pub place : n ≡ length (spell call)

-- the whole list, of length n, is shorter than a call's list that it begins
pub record EndsShort (l : List ℕ) (n : ℕ) : Type 0 where
  pub part : IsPart l
  pub place : n ≡ length l

-- at place n, which is no check's, no call's list goes on with x
pub record EndsOutside (l : List ℕ) (n x : ℕ) : Type 0 where
  pub front : List ℕ
  pub rest : List ℕ
  pub list : l ≡ front ++ (x ∷ rest)
  pub place : n ≡ length front
  pub part : IsPart front
  pub never : IsViable (front ++ (x ∷ [])) → ⊥
  pub elsewhere : IsAtCheck front → ⊥

-- at place n, which is that of a check, no call's list goes on with the symbol got
pub record EndsWrong (l : List ℕ) (n want got : ℕ) : Type 0 where
  pub front : List ℕ
  pub rest : List ℕ
  pub list : l ≡ front ++ (got ∷ rest)
  pub place : n ≡ length front
  pub check_place : IsAtCheck front
  pub never : IsViable (front ++ (got ∷ [])) → ⊥
  pub check : want ≡ check_of (drop 1 front)

-- what each answer says of the list
abbrev pub IsReading : List ℕ → Result (Call × ℕ) ReadRefusal → Type 0
IsReading l (Ok read) = BeginsWith l read.0 read.1
IsReading l (Err (Short n)) = EndsShort l n
IsReading l (Err (Outside n x)) = EndsOutside l n x
IsReading l (Err (Check n want got)) = EndsWrong l n want got

-- the list begins with a format specifier twice
pub record IsTwice (l : List ℕ) : Type 0 where
  pub format : ℕ
  pub rest : List ℕ
  pub lawful : IsFormat format
  pub list : l ≡ format ∷ format ∷ rest

-- this symbol is at place n
pub record Shows (l : List ℕ) (n x : ℕ) : Type 0 where
  pub inside : n < length l
  pub symbol : slice_index l n ≡ x

-- the list ends before place n, or has another symbol there
abbrev pub Misses : List ℕ → ℕ → ℕ → ReadRefusal → Type 0
Misses l n x (Short m) = (m ≡ n) × (length l ≤ n)
Misses l n x (Outside m got) = (m ≡ n) × Shows l n got × (got ≢ x)
Misses l n x (Check m want got) = ⊥
