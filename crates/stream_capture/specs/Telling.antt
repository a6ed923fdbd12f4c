-- What `capture` writes: this project's profile.
use Rattle.std.specs.Prelude.{◌≡◌, ℕ, suc, ◌+◌, pos, ◌-ℤ◌, if◌then◌else◌, List, [], ◌∷◌, ◌++◌, map, length, codes, ℤ, Bool}
use Rattle.std.specs.Fmt.{signed_decimal}
use Rattle.std.specs.List.{list_all, AllByRecursion}
use Rattle.ten_unit.specs.declared.character.Element.{Element}
use Rattle.phasing.specs.declared.reception.TheConstants.{LEAD_OF_FIRST}
use Rattle.slot_join.specs.declared.joined.Joined.{Joined}
use Rattle.slot_join.specs.Answer.{IsAnswer, is_reported}
use Rattle.line_grammar.specs.Columns.{IsColumn}
use Rattle.line_engine.specs.Lines.{Lines}
use Rattle.line_engine.specs.Meaning.{Meaning}
use Rattle.input_lines.specs.StreamLine.{IsStreamLine}
use Rattle.call_texts.specs.Texts.{answer_line}
use Rattle.long_capture.specs.Starts.{starts_below, facts_from}
use Rattle.long_capture.specs.Captures.{decided}

-- the lines add these elements to the stream, one by one
abbrev pub AreStreamLines : List (List Element) → Lines → Type 0
AreStreamLines [] [] = Unit {0}
AreStreamLines [] (text ∷ lines) = ⊥
AreStreamLines (added ∷ said) [] = ⊥
AreStreamLines (added ∷ said) (text ∷ lines) = IsStreamLine added text × AreStreamLines said lines

-- the stream: what all lines add, one after another
abbrev pub stream_of : List (List Element) → List Element
stream_of [] = []
stream_of (added ∷ said) = added ++ stream_of said

-- a start, by its lead, and the answer that is told of it
pub record AnsweredStart : Type 0 where
  pub lead : ℕ
  pub answer : Joined

-- these are the starts of a stream below a lead, each with the answer to its facts
pub record AreAnsweredStarts (e : List Element) (bound : ℕ) (told : List AnsweredStart) : Type 0 where
  pub leads : map (λ one. one.lead) told ≡ starts_below e bound
  pub answers : AllByRecursion (λ one. IsAnswer (facts_from e one.lead) one.answer) told

-- the line of a start: its origin, and directly after it the answer line of the group with the start's number
unfoldable pub start_line : ℕ → (origin : ℤ) → Joined → List ℕ
start_line number origin answer = codes "at " ++ (signed_decimal origin ++ (codes " " ++ answer_line number answer))

-- the lines of starts, numbered from here on; an origin is 150 below its lead
unfoldable pub told_text : ℕ → List AnsweredStart → List ℕ
told_text number [] = []
told_text number (one ∷ told) = start_line number (pos one.lead -ℤ pos LEAD_OF_FIRST) one.answer ++ told_text (suc number) told

-- each start was reported
abbrev pub are_reported : List AnsweredStart → Bool
are_reported told = list_all (λ one. is_reported one.answer) told

-- what these lines give before it is known whether others follow: the lines of the starts that their elements decide
pub record GivesStarts (lines : Lines) (text : List ℕ) : Type 0 where
  pub said : List (List Element)
  pub are_lines : AreStreamLines said lines
  pub told : List AnsweredStart
  pub are_told : AreAnsweredStarts (stream_of said) (decided (length (stream_of said))) told
  pub text_is : text ≡ told_text 0 told

-- an input of these lines has this text, the lines of all starts, and this status: 1 where a start isn't reported
pub record EndsStarts (lines : Lines) (text : List ℕ) (status : ℕ) : Type 0 where
  pub said : List (List Element)
  pub are_lines : AreStreamLines said lines
  pub told : List AnsweredStart
  pub are_told : AreAnsweredStarts (stream_of said) (length (stream_of said) + LEAD_OF_FIRST) told
  pub text_is : text ≡ told_text 0 told
  pub status_is : status ≡ (if are_reported told then 0 else 1)

-- the line of a start is given as soon as it is decided
abbrev pub capture_meaning : Meaning
capture_meaning = record {
  IsIllFormed = λ earlier text n. IsColumn IsStreamLine text n;
  IsOverfull = λ earlier text. ⊥;
  Gives = GivesStarts;
  Ends = EndsStarts;
}
