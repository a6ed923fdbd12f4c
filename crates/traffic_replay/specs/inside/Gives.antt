-- What a replay stands for is what its lines give.
use Rattle.std.specs.Prelude.{ℕ, Bool, List, []}
use Rattle.std.proofs.Common.{sym, subst}
use Rattle.line_engine.specs.Lines.{Lines}
use Rattle.traffic_lines.specs.declared.lines.StationLine.TheVariants as named
use Rattle.traffic_replay.specs.declared.{command.Replay.Replay, stages.Stage.Stage}
use Rattle.traffic_replay.specs.declared.stages.Stage.TheVariants as stage
use Rattle.traffic_replay.specs.Said.{Said, Kind, ship, coast, kind_of}
use Rattle.traffic_replay.specs.Meaning.{StationTells, replay_meaning}
use Rattle.traffic_replay.specs.inside.Progress.{IsQuiet, KeepsStation, StandsFor}

-- where nothing happened, nothing is told
abbrev pub quiet_tells : (kind : Kind) (said : Said) (text : List ℕ) (is_well : Bool) → IsQuiet said text is_well → StationTells kind said text is_well
quiet_tells ship said text is_well quiet = record { happened = []; are_happenings = quiet.0; text_is = quiet.2; well_is = quiet.3 }
quiet_tells (coast band) said text is_well quiet = record { happened = []; are_happenings = quiet.1; text_is = quiet.2; well_is = quiet.3 }

-- what a stage keeps is told by the station that lines name
abbrev pub told_text : (at : Stage) (said : Said) (text : List ℕ) (is_well : Bool) → KeepsStation at said text is_well → StationTells (kind_of said) said text is_well
told_text stage.Station said text is_well keeps = quiet_tells (kind_of said) said text is_well keeps.1
told_text (stage.Base (named.Ship own)) said text is_well keeps = quiet_tells (kind_of said) said text is_well keeps.2
told_text (stage.Base (named.Coast own band)) said text is_well keeps = quiet_tells (kind_of said) said text is_well keeps.2
told_text (stage.Groups g) said text is_well keeps = quiet_tells (kind_of said) said text is_well keeps.3
told_text (stage.Ship base s) said text is_well keeps = subst (λ (k : Kind). StationTells k said text is_well) (sym keeps.0) keeps.2.tells
told_text (stage.Coast s) said text is_well keeps = subst (λ (k : Kind). StationTells k said text is_well) (sym keeps.1) keeps.2.tells

abbrev pub gives_text : (replay : Replay) (lines : Lines) (text : List ℕ) → StandsFor replay lines text → replay_meaning.Gives lines text
gives_text replay lines text stands = (
  replay.is_well,
  record { said = stands.said; are_said = stands.are_said; tells = told_text replay.stage stands.said text replay.is_well stands.keeps.station },
)
