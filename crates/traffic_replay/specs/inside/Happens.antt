-- What happens at an event line, by the rules of a station.
use Rattle.std.specs.Prelude.{◌≡◌, ℕ, Bool, Option, Some, Result, List, ◌++◌}
use Rattle.call_values.specs.declared.calls.Call.{Call}
use Rattle.expansion.specs.declared.values.Sets.{Sets}
use Rattle.traffic_rules.specs.Histories.{History}
use Rattle.traffic_rules.specs.Rules.{Rules}
use Rattle.station_lines.specs.Events.{EventLine}
use Rattle.traffic_lines.specs.declared.lines.Event.TheVariants as event
use Rattle.traffic_lines.specs.declared.{lines.Hearing.TheVariants.Hear, lines.Deed.Deed, lines.StationOwn.StationOwn}
use Rattle.traffic_lines.specs.Lines.{deed_with}
use Rattle.traffic_replay.specs.declared.outcomes.Unreported.{Unreported}
use Rattle.traffic_replay.specs.Said.{Said}
use Rattle.traffic_replay.specs.Happenings.{Taking, ComesOf}
use Rattle.traffic_replay.specs.Output.{history_behind, written_behind, is_accepted_behind}

-- where moments count from this second, a kind of station takes lines so: what it alone does is this among what
-- stations do, each deed gives this event, and each call that it hears this one
pub record Takes {Own What : Type 0} (taking : Taking What) (own : Own → StationOwn) (does : (at : ℕ) → Deed Own → What) (hears : Call → What) (base : ℕ) : Type 0 where
  pub deeds : (at : ℕ) (deed : Deed Own) → taking.event base at (event.Does (deed_with own deed)) ≡ Some (does at deed)
  pub calls : (at : ℕ) (call : Call) (tail : Option Sets) → taking.event base at (event.Comes (Hear call tail)) ≡ Some (hears call)
  pub heard : taking.heard ≡ hears

-- what came of an event line after these lines and this history; the station then stands for the history after it, and
-- this is written
pub record Happens {What : Type 0} (rules : Rules What) (taking : Taking What) (IsAt : History What → Type 0) (h : History What) (said : Said) (at : ℕ) (what : EventLine)
    (old new : List ℕ) (accepted : Bool) : Type 0 where
  pub outcome : Result What Unreported
  pub comes : ComesOf taking said at what outcome
  pub stands : IsAt (history_behind rules h at outcome)
  pub lines : new ≡ old ++ written_behind rules h at outcome
  pub well : accepted ≡ is_accepted_behind rules h at outcome
