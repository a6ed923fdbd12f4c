-- What `capture` writes of a start at which a call was received: ITU-R M.493, the error-detecting code and time
-- diversity; the rule is this project's profile.
use Rattle.std.specs.Prelude.{ℕ, List, ◌++◌}
use Rattle.std.specs.List.{AllByRecursion}
use Rattle.ten_unit.specs.declared.character.Element.{Element}
use Rattle.call_values.specs.declared.calls.Call.{Call}
use Rattle.call_values.specs.Calls.{IsCall}
use Rattle.call_grammar.specs.Spelling.{spell}
use Rattle.slot_join.specs.Heard.{IsOneWayAt}
use Rattle.slot_join.specs.OneCall.{IsCallOrMissing}
use Rattle.line_engine.specs.Lines.{Lines}
use Rattle.line_engine.specs.Meaning.{Meaning}
use Rattle.long_capture.specs.Starts.{facts_from}
use Rattle.stream_capture.specs.Telling.{stream_of, AnsweredStart, GivesStarts, EndsStarts, capture_meaning}

-- at each start at which a call and what follows it was received, in each character wrong in one sense alone, the
-- answer reports this call, or names a place of it that showed nothing
abbrev pub TellsHeard : List Element → List AnsweredStart → Type 0
TellsHeard e told = (call : Call) (tail : List ℕ) → IsCall call
    → AllByRecursion (λ one. IsOneWayAt e (spell call ++ tail) one.lead → IsCallOrMissing (facts_from e one.lead) call one.answer) told

-- before their end these lines give this text, whose starts report the calls that were received at them, or name a lost
-- place
pub record GivesHeard (lines : Lines) (text : List ℕ) : Type 0 where
  pub gives : GivesStarts lines text
  pub heard : TellsHeard (stream_of gives.said) gives.told

-- an input of these lines has this text and status, and its starts report the calls that were received at them, or name
-- a lost place
pub record EndsHeard (lines : Lines) (text : List ℕ) (status : ℕ) : Type 0 where
  pub ends : EndsStarts lines text status
  pub heard : TellsHeard (stream_of ends.said) ends.told

-- what the lines of a stream mean, and what is written of the calls that were received at its starts
abbrev pub heard_meaning : Meaning
heard_meaning = record capture_meaning { Gives = GivesHeard; Ends = EndsHeard }
