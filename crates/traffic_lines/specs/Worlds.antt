-- The lines of files of exchanges but for empty lines and comments, a row for each: this project's profile.
use Rattle.std.specs.Prelude.{◌≡◌, ◌≢◌, ℕ, List, [], ◌∷◌, ◌+◌, ◌-◌, ◌==◌, if◌then◌else◌, codes}
use Rattle.call_values.specs.declared.bounds.TheConstants as bounds
use Rattle.call_values.specs.declared.choices.Band.{Band}
use Rattle.call_values.specs.Identity.{IsMmsi}
use Rattle.call_texts.specs.CallGrammar.{identity}
use Rattle.line_grammar.specs.Shapes.{digits, fixed_number}
use Rattle.line_grammar.specs.Tokens.{Token, shaped}
use Rattle.line_grammar.specs.Grammar.{Grammar, word, either, Parts, part, first, second}
use Rattle.line_grammar.specs.Sections.{nth, last}
use Rattle.line_grammar.specs.Rows.{IsWritten}
use Rattle.traffic_lines.specs.declared.{lines.ShipOwn.ShipOwn, lines.CoastOwn.CoastOwn, worlds.ExchangePoint.ExchangePoint, worlds.WorldLine.WorldLine}
use Rattle.traffic_lines.specs.declared.lines.Event as events
use Rattle.traffic_lines.specs.declared.worlds.ExchangePoint.TheVariants as point
use Rattle.traffic_lines.specs.declared.worlds.EndEvent as entries
use Rattle.traffic_lines.specs.declared.worlds.EndEvent.TheVariants.{AtShip, AtCoast}
use Rattle.traffic_lines.specs.declared.worlds.WorldLine.TheVariants.{Ship, Coast, Base, EndEvent}
use Rattle.traffic_lines.specs.Events.{ship_rows, ship_parts, IsShipOwn, coast_rows, coast_parts, IsCoastOwn, get, get_parts, IsGet, event, event_parts, IsEvent}
use Rattle.traffic_lines.specs.Lines.{ship, coast, coast_station_parts, base, base_parts, IsBase, at_moment, moment_parts, IsAtMoment}

-- ---- a coast station of another identity than the ship

-- the other identities below this one, or those above it where it is the first
abbrev pub others_below : ℕ → ℕ × ℕ
others_below mmsi = if mmsi == 0 then (1, bounds.LAST_IDENTITY) else (0, mmsi - 1)

-- the identities above this one, or those below it where it is the last
abbrev pub others_above : ℕ → ℕ × ℕ
others_above mmsi = if mmsi == bounds.LAST_IDENTITY then (0, mmsi - 1) else (mmsi + 1, bounds.LAST_IDENTITY)

-- the identities but for this one, as ranges of numbers
abbrev pub others : ℕ → List (ℕ × ℕ)
others mmsi = others_below mmsi ∷ others_above mmsi ∷ []

-- an identity but this one
abbrev pub other_identity : ℕ → Token
other_identity mmsi = shaped (fixed_number 9 (others mmsi))

-- a coast station whose identity isn't the ship's
abbrev pub IsOtherCoast : (ship : ℕ) → ℕ × Band → Type 0
IsOtherCoast ship says = (IsMmsi says.0 × (says.0 ≢ ship)) × Unit {0}

-- ---- event lines

-- s, a moment and what happens at the ship: s 5000 get 0
abbrev pub at_ship : Grammar → Grammar
at_ship rest = word (codes "s ") (at_moment (event ship_rows get) rest)

-- c, a moment and what happens at the coast station: c 5000 tick
abbrev pub at_coast : Grammar → Grammar
at_coast rest = word (codes "c ") (at_moment (event coast_rows get) rest)

-- the parts of an event line of the ship in an exchange
abbrev pub at_ship_parts : ℕ × events.Event ShipOwn ℕ → Parts → Parts
at_ship_parts = moment_parts (event_parts ship_parts get_parts)

-- the parts of an event line of the coast station in an exchange
abbrev pub at_coast_parts : ℕ × events.Event CoastOwn ℕ → Parts → Parts
at_coast_parts = moment_parts (event_parts coast_parts get_parts)

-- the row of an event of an exchange: its end, and what happens there
abbrev pub end_event : Grammar → Grammar
end_event rest = either (at_ship rest) (at_coast rest)

-- the parts of an event line of an exchange
abbrev pub end_event_parts : entries.EndEvent → Parts → Parts
end_event_parts (AtShip at what) rest = nth 0 (at_ship_parts (at, what) rest)
end_event_parts (AtCoast at what) rest = last 1 (at_coast_parts (at, what) rest)

-- an event of an exchange, each part in its range
abbrev pub IsEndEvent : entries.EndEvent → Type 0
IsEndEvent (AtShip at what) = IsAtMoment (IsEvent IsShipOwn IsGet) (at, what)
IsEndEvent (AtCoast at what) = IsAtMoment (IsEvent IsCoastOwn IsGet) (at, what)

-- ---- all lines

-- the rows of all lines of a file of an exchange
abbrev pub world_lines : Grammar → Grammar
world_lines rest = either (ship rest) (either (coast identity rest) (either (base rest) (end_event rest)))

-- the parts of a line of a file of an exchange
abbrev pub world_parts : WorldLine → Parts → Parts
world_parts (Ship mmsi) rest = nth 0 (part (digits 9 mmsi) rest)
world_parts (Coast mmsi band) rest = nth 1 (coast_station_parts (mmsi, band) rest)
world_parts (Base s) rest = nth 2 (base_parts s rest)
world_parts (EndEvent what) rest = last 3 (end_event_parts what rest)

-- a line of a file of an exchange, each part in its range
abbrev pub IsWorld : WorldLine → Type 0
IsWorld (Ship mmsi) = IsMmsi mmsi
IsWorld (Coast mmsi band) = IsMmsi mmsi
IsWorld (Base s) = IsBase s
IsWorld (EndEvent what) = IsEndEvent what

-- the text of a line
abbrev pub IsWorldLineText : WorldLine → List ℕ → Type 0
IsWorldLineText line text = IsWritten world_lines IsWorld world_parts line text

-- which lines may come at a point: the coast station has another identity than the ship
abbrev pub MayStandInWorld : ExchangePoint → WorldLine → Type 0
MayStandInWorld point.Ship (Ship mmsi) = Unit {0}
MayStandInWorld (point.Coast ship) (Coast mmsi band) = mmsi ≢ ship
MayStandInWorld point.Base (Base s) = Unit {0}
MayStandInWorld point.Events (EndEvent what) = Unit {0}
MayStandInWorld _ _ = ⊥

-- the lines of a point
abbrev pub IsWorldLine : ExchangePoint → WorldLine → List ℕ → Type 0
IsWorldLine point line text = MayStandInWorld point line × IsWorldLineText line text
