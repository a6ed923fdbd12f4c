-- What a watch writes of a group whose receptions are all of one call: ITU-R M.493, the error-detecting code and time
-- diversity; the rule is this project's profile.
use Rattle.std.specs.Prelude.{◌≡◌, ℕ, List}
use Rattle.std.specs.List.{AllByRecursion}
use Rattle.ten_unit.specs.declared.character.Element.{Element}
use Rattle.call_values.specs.declared.calls.Call.{Call}
use Rattle.line_engine.specs.Lines.{Lines}
use Rattle.line_engine.specs.Meaning.{Meaning}
use Rattle.input_lines.specs.ReceiverLine.{ReceiverLine}
use Rattle.watch_groups.specs.declared.telling.ToldCall.{ToldCall}
use Rattle.watch_groups.specs.Meaning.{watch_meaning, GivesTold, EndsWatch}
use Rattle.dsc_cmd.specs.Heard.{IsOfCall}
use Rattle.dsc_cmd.specs.Sent.{TellsSent}

-- where all receptions of a group are of one call, no other call is told of it
abbrev pub TellsNoOther : List ReceiverLine → List ToldCall → Type 0
TellsNoOther said told = (k : ℕ) (call : Call) (tail : List ℕ) (receptions : List (List Element)) → IsOfCall said k call tail receptions
    → AllByRecursion (λ one. one.group ≡ k → one.call ≡ call) told

-- before their end these lines may give this text of told calls: where all receptions of a group are of one call, no
-- other call is told of it
pub record GivesSent (lines : Lines) (text : List ℕ) : Type 0 where
  pub gives : GivesTold lines text
  pub sent : TellsNoOther gives.said gives.told

-- an input of these lines may have this text: the calls that are told, and after them what join writes; where all
-- receptions of a group are of one call, no other call is told of it, and join's line reports this call, or names a
-- lost place of it
pub record EndsSent (lines : Lines) (text : List ℕ) (status : ℕ) : Type 0 where
  pub ends : EndsWatch lines text status
  pub sent : TellsNoOther ends.said ends.told
  pub answered : (k : ℕ) (call : Call) (tail : List ℕ) (receptions : List (List Element)) → IsOfCall ends.said k call tail receptions
      → TellsSent ends.is_join.all k call tail receptions

-- what the lines of a watch mean, and what is written of the calls that were sent
abbrev pub sent_meaning : Meaning
sent_meaning = record watch_meaning { Gives = GivesSent; Ends = EndsSent }
