-- The lines of traffic files: this project's profile.
use Rattle.std.specs.Prelude.{ℕ, List}
use Rattle.traffic_lines.specs.declared.lines.Point.{Point}
use Rattle.traffic_lines.specs.declared.lines.Point.TheVariants.{Station, Base, Groups, Ship, Coast}
use Rattle.traffic_lines.specs.declared.lines.TrafficLine.{TrafficLine}
use Rattle.traffic_lines.specs.Lines.{IsTrafficLine}
use Rattle.input_lines.specs.ReceiverLine.{ReceiverLine, nothing, reception, evidence, IsLine}

-- what a line says: what a line of join's input says; or what is a station's, as its base, its groups and its events
pub data PointLine : Type 0 where
  joined : ReceiverLine → PointLine
  traffic : TrafficLine → PointLine

-- the points after the base
abbrev pub IsBody : Point → Type 0
IsBody Station = ⊥
IsBody Base = ⊥
IsBody _ = Unit {0}

-- receptions and evidence come after the base, and empty lines and comments everywhere
abbrev pub MayBeJoined : Point → ReceiverLine → Type 0
MayBeJoined point nothing = Unit {0}
MayBeJoined point _ = IsBody point

-- the well-formed lines of a point
abbrev pub IsPointLine : Point → PointLine → List ℕ → Type 0
IsPointLine point (joined line) text = MayBeJoined point line × IsLine line text
IsPointLine point (traffic line) text = IsTrafficLine point line text
