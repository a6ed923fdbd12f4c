-- The lines of files of exchanges: this project's profile.
use Rattle.std.specs.Prelude.{ℕ, List, Option, Some, None}
use Rattle.traffic_lines.specs.declared.worlds.ExchangePoint.{ExchangePoint}
use Rattle.traffic_lines.specs.declared.worlds.WorldLine.{WorldLine}
use Rattle.traffic_lines.specs.Worlds.{IsWorldLine}
use Rattle.input_lines.specs.ReceiverLine.{IsNothing}

-- the well-formed lines of a point: those that say nothing, and those of the ship, of the coast station, of the base
-- and of events
abbrev pub IsWorldFileLine : ExchangePoint → Option WorldLine → List ℕ → Type 0
IsWorldFileLine point None text = IsNothing text
IsWorldFileLine point (Some line) text = IsWorldLine point line text
