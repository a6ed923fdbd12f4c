-- Reading of whole lists of expansions, with a given end of sequence: this project's profile.
use Rattle.std.specs.Prelude.{◌≡◌, ℕ, List, [], ◌∷◌, ◌++◌, length, Result, Ok, Err}
use Rattle.symbol_reader.specs.Checks.{check_of}
use Rattle.symbol_reader.specs.declared.refusals.ReadRefusal.{ReadRefusal}
use Rattle.symbol_reader.specs.declared.refusals.ReadRefusal.TheVariants.{Short, Outside, Check}
use Rattle.call_values.specs.declared.choices.End.{End}
use Rattle.expansion.specs.declared.values.Sets.{Sets}
use Rattle.expansion.specs.Expansions.{IsExpansion}
use Rattle.expansion.specs.Spelling.{covered, through_check, spell}

-- the list begins some expansion's list with this end of sequence
pub record IsViable (last : End) (l : List ℕ) : Type 0 where
  pub expansion : Sets
  pub rest : List ℕ
  pub lawful : IsExpansion expansion
  pub list : spell expansion last ≡ l ++ rest

-- the list begins one and is shorter
pub record IsPart (last : End) (l : List ℕ) : Type 0 where
  pub expansion : Sets
  pub next : ℕ
  pub rest : List ℕ
  pub lawful : IsExpansion expansion
  pub list : spell expansion last ≡ l ++ (next ∷ rest)

-- the list begins some expansion's list up to its check, and ends before it
pub record IsOpen (last : End) (l : List ℕ) : Type 0 where
  pub expansion : Sets
  pub next : ℕ
  pub rest : List ℕ
  pub lawful : IsExpansion expansion
  pub list : through_check expansion last ≡ l ++ (next ∷ rest)

-- the next place is that of some expansion's check
pub record IsAtCheck (last : End) (l : List ℕ) : Type 0 where
  pub expansion : Sets
  pub lawful : IsExpansion expansion
  pub list : l ≡ covered expansion last

-- the list begins with this expansion's list, of this length
pub record BeginsWith (last : End) (l : List ℕ) (expansion : Sets) (n : ℕ) : Type 0 where
  pub rest : List ℕ
  pub lawful : IsExpansion expansion
  pub list : l ≡ spell expansion last ++ rest
  pub place : n ≡ length (spell expansion last)

-- the whole list, of length n, is shorter than an expansion's list that it begins
pub record EndsShort (last : End) (l : List ℕ) (n : ℕ) : Type 0 where
  pub part : IsPart last l
  pub place : n ≡ length l

-- at place n, which is no check's, no expansion's list goes on with x
pub record EndsOutside (last : End) (l : List ℕ) (n x : ℕ) : Type 0 where
  pub front : List ℕ
  pub rest : List ℕ
  pub list : l ≡ front ++ (x ∷ rest)
  pub place : n ≡ length front
  pub part : IsPart last front
  pub never : IsViable last (front ++ (x ∷ [])) → ⊥
  pub elsewhere : IsAtCheck last front → ⊥

-- at place n, which is that of a check, no expansion's list goes on with the symbol got
pub record EndsWrong (last : End) (l : List ℕ) (n want got : ℕ) : Type 0 where
  pub front : List ℕ
  pub rest : List ℕ
  pub list : l ≡ front ++ (got ∷ rest)
  pub place : n ≡ length front
  pub check_place : IsAtCheck last front
  pub never : IsViable last (front ++ (got ∷ [])) → ⊥
  pub check : want ≡ check_of front

-- what each answer says of the list, its places counted from its first symbol
abbrev pub IsReading : End → List ℕ → Result (Sets × ℕ) ReadRefusal → Type 0
IsReading last l (Ok read) = BeginsWith last l read.0 read.1
IsReading last l (Err (Short n)) = EndsShort last l n
IsReading last l (Err (Outside n x)) = EndsOutside last l n x
IsReading last l (Err (Check n want got)) = EndsWrong last l n want got

-- the list begins with this expansion's list up to its check
pub record BeginsChecked (last : End) (l : List ℕ) (expansion : Sets) : Type 0 where
  pub rest : List ℕ
  pub lawful : IsExpansion expansion
  pub list : l ≡ through_check expansion last ++ rest

-- place n is the first at which no expansion's list goes on, and no check comes before it: the list ends there, or has
-- a symbol there with which none goes on
pub record StopsOpen (last : End) (l : List ℕ) (n : ℕ) : Type 0 where
  pub front : List ℕ
  pub rest : List ℕ
  pub list : l ≡ front ++ rest
  pub place : n ≡ length front
  pub open_ : IsOpen last front
  pub never : (x : ℕ) (more : List ℕ) → rest ≡ x ∷ more → IsViable last (front ++ (x ∷ [])) → ⊥

-- what reading up to the check answers: the expansion, or the first place at which none goes on
abbrev pub IsCheckedReading : End → List ℕ → Result Sets ℕ → Type 0
IsCheckedReading last l (Ok expansion) = BeginsChecked last l expansion
IsCheckedReading last l (Err n) = StopsOpen last l n
