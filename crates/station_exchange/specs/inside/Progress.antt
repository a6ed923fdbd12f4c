-- What the command has come to.
use Rattle.std.specs.Prelude.{◌≡◌, ℕ, ◌≤◌, Bool, true, Option, List, [], ◌∷◌}
use Rattle.call_values.specs.declared.bounds.TheConstants.{LAST_BASE}
use Rattle.traffic_lines.specs.declared.worlds.ExchangePoint.{ExchangePoint}
use Rattle.traffic_lines.specs.declared.worlds.ExchangePoint.TheVariants as point
use Rattle.traffic_lines.specs.declared.worlds.WorldLine.{WorldLine}
use Rattle.traffic_lines.specs.Worlds.{IsWorldLine}
use Rattle.line_grammar.specs.Columns.{IsColumn}
use Rattle.line_engine.specs.Lines.{Lines}
use Rattle.line_engine.specs.declared.command.Refusal.{Refusal}
use Rattle.line_engine.specs.declared.command.Refusal.TheVariants as refusal
use Rattle.input_lines.specs.WorldLine.{IsWorldFileLine}
use Rattle.exchange.specs.StandsFor.{StandsFor as WorldStandsFor}
use Rattle.station_exchange.specs.declared.command.Exchanging.{Exchanging}
use Rattle.station_exchange.specs.declared.stages.Stage.{Stage}
use Rattle.station_exchange.specs.declared.stages.Stage.TheVariants as at
use Rattle.station_exchange.specs.Said.{Said, point_of, ship_of, base_of, parties_of, world_of, AreSaid}
use Rattle.station_exchange.specs.Output.{text_of, all_accepted}

-- the point of the next line, by the stage
abbrev pub point_at : Stage → ExchangePoint
point_at at.Ship = point.Ship
point_at (at.Coast ship) = point.Coast ship
point_at (at.Base ship coast band) = point.Base
point_at (at.Events events) = point.Events

-- what is known of a stage whatever was said
abbrev pub IsReady : Stage → Type 0
IsReady (at.Events events) = events.base ≤ LAST_BASE
IsReady _ = Unit {0}

-- all is well so far, by the stage
abbrev pub is_well_at : Stage → Bool
is_well_at (at.Events events) = events.is_well
is_well_at _ = true

-- what a stage keeps of the ends, the base and the history; events come after the base alone
abbrev pub KeepsEnds : Stage → Said → Type 0
KeepsEnds at.Ship said = world_of said ≡ []
KeepsEnds (at.Coast ship) said = (ship_of said ≡ ship) × (world_of said ≡ [])
KeepsEnds (at.Base ship coast band) said =
    (parties_of said ≡ record { ship = record { own = ship; groups = [] }; coast = record { own = coast; band = band } }) × (world_of said ≡ [])
KeepsEnds (at.Events events) said = (events.base ≡ base_of said) × WorldStandsFor events.world (parties_of said) (world_of said)

-- a stage keeps what these lines say, and this is their text
pub record Keeps (stage : Stage) (said : Said) (text : List ℕ) : Type 0 where
  pub point : point_at stage ≡ point_of said
  pub ready : IsReady stage
  pub ends : KeepsEnds stage said
  pub text_is : text ≡ text_of (world_of said)
  pub well_is : is_well_at stage ≡ all_accepted (world_of said)

-- faults of the lines of a point are faults of this line in a file
abbrev pub IsOwnLine : List ℕ → Type 0
IsOwnLine text = (at : ExchangePoint) (n : ℕ) → 1 ≤ n → IsColumn (IsWorldLine at) text n → IsColumn (IsWorldFileLine at) text n

-- the command stands for these lines, and this is their text
pub record StandsFor (command : Exchanging) (lines : Lines) (text : List ℕ) : Type 0 where
  pub said : Said
  pub are_said : AreSaid said lines
  pub keeps : Keeps command.stage said text

-- after what was said this line says something more, and the stage keeps it
pub record Takes (stage : Stage) (said : Said) (line : List ℕ) (text : List ℕ) : Type 0 where
  pub says : Option WorldLine
  pub is_line : IsWorldFileLine (point_of said) says line
  pub keeps : Keeps stage (says ∷ said) text

-- after what was said this line is refused for this reason
abbrev pub Refuses : Said → (line : List ℕ) → Refusal → Type 0
Refuses said line (refusal.Column n) = IsColumn (IsWorldFileLine (point_of said)) line n
Refuses said line refusal.TooManyGroups = ⊥
Refuses said line refusal.Memory = Unit {0}

-- by this line a stage leads to another, and the line gives no text
abbrev pub LeadsTo : (from : Stage) (line : List ℕ) (to : Stage) → Type 0
LeadsTo from line to = (said : Said) (text : List ℕ) → Keeps from said text → Takes to said line text

-- at a stage a line is refused for this reason
abbrev pub IsRefusedAt : (from : Stage) (line : List ℕ) → Refusal → Type 0
IsRefusedAt from line reason = (said : Said) (text : List ℕ) → Keeps from said text → Refuses said line reason
