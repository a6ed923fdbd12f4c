-- lines of the station, by the stage
use Rattle.std.proofs.Common.{◌≡◌, ◌∙◌, ◌≤◌, ◌∷◌, ℕ, List, sym, ap, subst}
use Rattle.line_grammar.specs.Columns.{IsColumn}
use Rattle.traffic_lines.specs.declared.{lines.Point.Point, lines.TrafficLine.TrafficLine}
use Rattle.traffic_lines.specs.Lines.{IsTrafficLine}
use Rattle.input_lines.specs.PointLine.{traffic, IsPointLine}
use Rattle.traffic_replay.specs.declared.{command.Replay.Replay, stages.Stage.Stage}
use Rattle.traffic_replay.specs.Said.{Said, point_of}
use Rattle.traffic_replay.specs.inside.Progress.{IsOwnLine, IsReadyAt, Keeps, KeepsStation, Takes, point_at}
use Rattle.traffic_replay.proofs.Receivers.{traffic_taken}

-- a line of the stage's point is taken where it is kept
pub takes_own : (old new : Replay) (at : Stage) (said : Said) (line text after : List ℕ) (says : TrafficLine) → old.stage ≡ at → Keeps old said text
    → IsTrafficLine (point_at at) says line → Keeps new (traffic says ∷ said) after → Takes new said line after
takes_own old new at said line text after says is keeps here kept = record {
  says = traffic says;
  is_line = subst (λ (p : Point). IsTrafficLine p says line) (ap point_at (sym is) ∙ keeps.point) here;
  few = λ b. traffic_taken said says b;
  keeps = kept;
}

-- what is kept at the stage that is there
pub kept_at : (old : Replay) (at : Stage) (said : Said) (text : List ℕ) → old.stage ≡ at → Keeps old said text → KeepsStation at said text old.is_well
kept_at old at said text is keeps = subst (λ (s : Stage). KeepsStation s said text old.is_well) is keeps.station

pub ready_at : (old : Replay) (at : Stage) → old.stage ≡ at → IsReadyAt old.stage → IsReadyAt at
ready_at old at is ready = subst IsReadyAt is ready

-- a fault of the station's lines is one of the point's
pub fault_here : (old : Replay) (at : Stage) (said : Said) (text line : List ℕ) (n : ℕ) → old.stage ≡ at → Keeps old said text → IsOwnLine (point_at old.stage) line
    → (1 ≤ n) × IsColumn (IsTrafficLine (point_at at)) line n → IsColumn (IsPointLine (point_of said)) line n
fault_here old at said text line n is keeps own fault =
    let there : IsColumn (IsTrafficLine (point_at old.stage)) line n = subst (λ (s : Stage). IsColumn (IsTrafficLine (point_at s)) line n) (sym is) fault.1 in
    subst (λ (q : Point). IsColumn (IsPointLine q) line n) keeps.point (own n fault.0 there)
