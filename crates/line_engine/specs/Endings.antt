-- How a run ends, by its status, and by what contracts see of its source and its sink before it and after it: this
-- project's profile.
use Rattle.std.specs.Prelude.{◌≡◌, ℕ, ◌≤◌, ◌⊎◌, List, [], ◌++◌, length, Option, Some}
use Rattle.byte_streams.specs.Streams.{Loses, Gains, IsEnded, IsFlushed}
use Rattle.line_engine.specs.Lines.{Lines, lines_of, IsCutInto}
use Rattle.line_engine.specs.Meaning.{Meaning}
use Rattle.line_engine.specs.Faults.{IsFaultless}
use Rattle.line_engine.specs.Output.{IsWhole, IsFaulty, IsSoFar, Asks, AsksEarly}

-- the statuses of a run that took its whole input
abbrev pub IsFinished : ℕ → Type 0
IsFinished status = (status ≡ 0) ⊎ (status ≡ 1)

-- the statuses of a run that named a fault in its input
abbrev pub IsOfFault : ℕ → Type 0
IsOfFault status = (status ≡ 3) ⊎ (status ≡ 7)

-- the statuses of a run that was broken off: by its source, by its sink, or for want of memory
abbrev pub IsBrokenOff : ℕ → Type 0
IsBrokenOff status = (status ≡ 4) ⊎ (status ≡ 5) ⊎ (status ≡ 6)

-- what may follow the bytes that were taken: nothing, or what contracts see left in the source
abbrev pub IsRest : (left : Option (List ℕ)) → List ℕ → Type 0
IsRest left rest = (rest ≡ []) ⊎ (left ≡ Some rest)

-- exactly this text was appended, where contracts see it, and all bytes are flushed
pub record Writes (before after : Option (List ℕ)) (flushed : ℕ) (text : List ℕ) : Type 0 where
  pub appended : Gains before after text
  pub all : IsFlushed after flushed

-- a front of this text was appended
pub record WritesFront (before after : Option (List ℕ)) (text : List ℕ) : Type 0 where
  pub front : List ℕ
  pub back : List ℕ
  pub text_is : text ≡ front ++ back
  pub appended : Gains before after front

-- no more bytes than this were taken
pub record TakesAtMost (left_before left_after : Option (List ℕ)) (most : ℕ) : Type 0 where
  pub taken : List ℕ
  pub lost : Loses left_before left_after taken
  pub within : length taken ≤ most

-- 0 and 1: the source was read to its end, the input has no fault, and its text was written
pub record TellsWhole (meaning : Meaning) (left_before left_after before after : Option (List ℕ)) (flushed status : ℕ) : Type 0 where
  pub input : List ℕ
  pub lost : Loses left_before left_after input
  pub ended : IsEnded left_after
  pub text : List ℕ
  pub whole : IsWhole meaning (lines_of input) text status
  pub writes : Writes before after flushed text

-- 3 and 7: the text of the input's first fault was written, whatever is left of the input
pub record TellsFault (meaning : Meaning) (left_before left_after before after : Option (List ℕ)) (flushed status : ℕ) : Type 0 where
  pub taken : List ℕ
  pub lost : Loses left_before left_after taken
  pub text : List ℕ
  pub faulty : (rest : List ℕ) → IsRest left_after rest → IsFaulty meaning (lines_of (taken ++ rest)) text status
  pub writes : Writes before after flushed text

-- 4: what was taken is lines without a fault and an open end, and exactly what these lines give was appended
pub record TellsSoFar (meaning : Meaning) (left_before left_after before after : Option (List ℕ)) : Type 0 where
  pub taken : List ℕ
  pub lost : Loses left_before left_after taken
  pub lines : Lines
  pub end : List ℕ
  pub cut : IsCutInto taken lines end
  pub faultless : IsFaultless meaning lines
  pub text : List ℕ
  pub gives : meaning.Gives lines text
  pub appended : Gains before after text

-- 5: a front of a text that the input asks for was appended, whatever is left of the input; the text of an input
-- without a fault counts only where the source was read to its end
pub record CutsOff (meaning : Meaning) (left_before left_after before after : Option (List ℕ)) : Type 0 where
  pub taken : List ℕ
  pub lost : Loses left_before left_after taken
  pub text : List ℕ
  pub asked : (rest : List ℕ) → IsRest left_after rest → Asks meaning (lines_of (taken ++ rest)) text
  pub early : IsEnded left_after ⊎ ((rest : List ℕ) → IsRest left_after rest → AsksEarly meaning (lines_of (taken ++ rest)) text)
  pub writes : WritesFront before after text

-- 6: a front of what the first lines of the input gave was appended, whatever is left of it
pub record TellsFront (meaning : Meaning) (left_before left_after before after : Option (List ℕ)) : Type 0 where
  pub taken : List ℕ
  pub lost : Loses left_before left_after taken
  pub text : List ℕ
  pub so_far : (rest : List ℕ) → IsRest left_after rest → IsSoFar meaning (lines_of (taken ++ rest)) text
  pub writes : WritesFront before after text
