-- What is read at a point of a traffic file, and of a file of an exchange: this project's profile.
use Rattle.std.specs.Prelude.{ℕ, List, Result}
use Rattle.line_grammar.specs.Rows.{ReadsAmong}
use Rattle.traffic_lines.specs.declared.{lines.Point.Point, lines.TrafficLine.TrafficLine, worlds.ExchangePoint.ExchangePoint, worlds.WorldLine.WorldLine}
use Rattle.traffic_lines.specs.Lines.{IsTrafficLine}
use Rattle.traffic_lines.specs.Worlds.{IsWorldLine}

-- the answer for a line of a station at a point of a traffic file
abbrev pub ReadsAt : {V : Type 0} (at : Point) (line_of : V → TrafficLine) → List ℕ → Result V ℕ → Type 0
ReadsAt at line_of bytes answer = ReadsAmong (IsTrafficLine at) line_of bytes answer

-- the answer for a line at a point of a file of an exchange
abbrev pub ReadsInWorld : {V : Type 0} (at : ExchangePoint) (line_of : V → WorldLine) → List ℕ → Result V ℕ → Type 0
ReadsInWorld at line_of bytes answer = ReadsAmong (IsWorldLine at) line_of bytes answer
