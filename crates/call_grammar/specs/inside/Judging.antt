-- What is read of a list that has the format specifier once.
use Rattle.std.specs.Prelude.{◌≡◌, ℕ, ◌≢◌, ◌⊎◌, Bool, true, false, List, ◌∷◌, ◌++◌}
use Rattle.symbol_reader.specs.inside.Reading.{Wants, Leaves}
use Rattle.call_values.specs.declared.calls.Call.{Call}
use Rattle.call_values.specs.Calls.{IsCall}
use Rattle.call_grammar.specs.Spelling.{covered, check_of}
use Rattle.call_grammar.specs.inside.Grammar.{CheckedCharacters}
use Rattle.call_grammar.specs.Walk.{IsOpen}
use Rattle.call_grammar.specs.declared.walking.Step.{Step}
use Rattle.call_grammar.specs.declared.walking.Step.TheVariants.{More, Done, Outside, Check}

-- the list is all that the check of this call covers
pub record IsCovered (l : List ℕ) : Type 0 where
  pub call : Call
  pub lawful : IsCall call
  pub list : l ≡ covered call

-- where the check of this call comes, the list goes on with the right one
pub record IsRight (l : List ℕ) (call : Call) : Type 0 where
  pub rest : List ℕ
  pub lawful : IsCall call
  pub list : l ≡ covered call ++ (check_of (covered call) ∷ rest)

-- where the check of a call comes, the list goes on with another symbol
pub record IsWrong (l : List ℕ) (want got : ℕ) : Type 0 where
  pub call : Call
  pub rest : List ℕ
  pub lawful : IsCall call
  pub list : l ≡ covered call ++ (got ∷ rest)
  pub check : want ≡ check_of (covered call)
  pub differ : want ≢ got

-- what each answer says of the list
abbrev pub Judges : List ℕ → Step → Type 0
Judges l More = Wants CheckedCharacters l ⊎ IsCovered l
Judges l (Done call) = IsRight l call
Judges l Outside = (new : List ℕ) × Leaves CheckedCharacters l new
Judges l (Check want got) = IsWrong l want got

-- whether the step takes the symbol
abbrev pub is_taken : Step → Bool
is_taken More = true
is_taken (Done call) = true
is_taken Outside = false
is_taken (Check want got) = false

-- a walk that wants more has taken nothing, or the format specifier twice at least
pub record IsWalking (l : List ℕ) : Type 0 where
  pub first : ℕ
  pub rest : List ℕ
  pub list : l ≡ first ∷ first ∷ rest
  pub begins : IsOpen l
