-- However a capture ends, what its starts say of the calls that were received at them.
use Rattle.std.proofs.Common.{ℕ, List, [], ◌∷◌, ◌++◌}
use Rattle.std.specs.List.{AllByRecursion}
use Rattle.byte_streams.specs.declared.streams.Source
use Rattle.byte_streams.specs.declared.streams.Sink
use Rattle.ten_unit.specs.declared.character.Element.{Element}
use Rattle.call_values.specs.declared.calls.Call.{Call}
use Rattle.call_values.specs.Calls.{IsCall}
use Rattle.call_grammar.specs.Spelling.{spell}
use Rattle.slot_join.specs.declared.joined.Joined.{Joined}
use Rattle.slot_join.specs.Answer.{IsAnswer}
use Rattle.slot_join.specs.Heard.{IsOneWayAt}
use Rattle.slot_join.specs.OneCall.{IsCallOrMissing}
use Rattle.line_engine.specs.Runs.{IsRun}
use Rattle.line_engine.proofs.PublicLaws.{runs_over}
use Rattle.long_capture.specs.Starts.{facts_from}
use Rattle.stream_capture.specs.Telling.{stream_of, AnsweredStart, capture_meaning}
use Rattle.dsc_cmd.specs.StartsHeard.{TellsHeard, GivesHeard, EndsHeard, heard_meaning}

-- at a start at which a call was received the answer is this call, or names a place of it that showed nothing
abbrev pub StartLaw : Type 0
StartLaw = (e : List Element) (lead : ℕ) (call : Call) (tail : List ℕ) (answer : Joined) → IsCall call → IsOneWayAt e (spell call ++ tail) lead
    → IsAnswer (facts_from e lead) answer → IsCallOrMissing (facts_from e lead) call answer

module _ (law : StartLaw) where
  tells_heard : (e : List Element) (told : List AnsweredStart) → AllByRecursion (λ one. IsAnswer (facts_from e one.lead) one.answer) told → TellsHeard e told
  tells_heard e [] answers call tail lawful = tt
  tells_heard e (one ∷ told) answers call tail lawful = (
    λ heard. law e one.lead call tail one.answer lawful heard answers.0,
    tells_heard e told answers.1 call tail lawful,
  )

  -- a run of a capture
  pub runs_heard : {In Out : Type 0} (source : Source.Ghosts In) (sink : Sink.Ghosts Out) (from rest : In) (before after : Out) (status : ℕ)
      → IsRun capture_meaning source sink from rest before after status → IsRun heard_meaning source sink from rest before after status
  runs_heard = runs_over capture_meaning GivesHeard EndsHeard
      (λ lines text given. record { gives = given; heard = tells_heard (stream_of given.said) given.told given.are_told.answers })
      (λ lines text status ended. record { ends = ended; heard = tells_heard (stream_of ended.said) ended.told ended.are_told.answers })
