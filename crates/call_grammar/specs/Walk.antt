-- Walks through the lists of calls, symbol by symbol: this project's profile, over the lists of ITU-R M.493.
use Rattle.std.specs.Prelude.{◌≡◌, ℕ, List, [], ◌∷◌, ◌++◌, drop}
use Rattle.call_values.specs.declared.calls.Call.{Call}
use Rattle.call_values.specs.Calls.{IsCall}
use Rattle.call_grammar.specs.Spelling.{spell, through_check, up_to_end, end_of, check_of}
use Rattle.call_grammar.specs.declared.walking.Step.{Step}
use Rattle.call_grammar.specs.declared.walking.Step.TheVariants.{More, Done, Outside, Check}

-- the list begins some call's list
pub record IsViable (l : List ℕ) : Type 0 where
  pub call : Call
  pub rest : List ℕ
  pub lawful : IsCall call
  pub list : spell call ≡ l ++ rest

-- the list begins some call's list up to its check, and ends before it
pub record IsOpen (l : List ℕ) : Type 0 where
  pub call : Call
  pub next : ℕ
  pub rest : List ℕ
  pub lawful : IsCall call
  pub list : through_check call ≡ l ++ (next ∷ rest)

-- the next place is that of some call's check
pub record IsAtCheck (l : List ℕ) : Type 0 where
  pub call : Call
  pub lawful : IsCall call
  pub list : l ≡ up_to_end call

-- the next place is that of some call's first end of sequence
pub record IsAtEnd (l : List ℕ) : Type 0 where
  pub call : Call
  pub lawful : IsCall call
  pub list : up_to_end call ≡ l ++ (end_of call ∷ [])

-- the list is some call's list up to its check
pub record IsDone (l : List ℕ) : Type 0 where
  pub call : Call
  pub lawful : IsCall call
  pub list : l ≡ through_check call

-- the list after one more symbol: the format specifier counts twice
abbrev pub after : List ℕ → ℕ → List ℕ
after [] x = x ∷ x ∷ []
after (format ∷ l) x = format ∷ (l ++ (x ∷ []))

-- the symbol was taken, and more is wanted
pub record GoesOn (old : List ℕ) (x : ℕ) (new : List ℕ) : Type 0 where
  pub taken : new ≡ after old x
  pub begins : IsOpen new

-- the symbol was taken, and is the right check of this call
pub record Completes (old : List ℕ) (x : ℕ) (call : Call) (new : List ℕ) : Type 0 where
  pub taken : new ≡ after old x
  pub lawful : IsCall call
  pub list : new ≡ through_check call

-- no call's list goes on with the symbol, which is at no check's place
pub record StaysOutside (old : List ℕ) (x : ℕ) (new : List ℕ) : Type 0 where
  pub same : new ≡ old
  pub never : IsViable (after old x) → ⊥
  pub elsewhere : IsAtCheck old → ⊥

-- the symbol is at the place of a check and is not the right one
pub record FailsCheck (old : List ℕ) (x want got : ℕ) (new : List ℕ) : Type 0 where
  pub same : new ≡ old
  pub never : IsViable (after old x) → ⊥
  pub place : IsAtCheck old
  pub check : want ≡ check_of (drop 1 old)
  pub symbol : got ≡ x

-- what each step of a walk says of its list before and after
abbrev pub IsStep : List ℕ → ℕ → Step → List ℕ → Type 0
IsStep old x More new = GoesOn old x new
IsStep old x (Done call) new = Completes old x call new
IsStep old x Outside new = StaysOutside old x new
IsStep old x (Check want got) new = FailsCheck old x want got new
