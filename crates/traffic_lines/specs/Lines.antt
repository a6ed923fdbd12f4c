-- The lines of traffic files but for empty lines, comments, receptions and evidence, a row for each: this project's
-- profile.
use Rattle.std.specs.Prelude.{◌≡◌, ℕ, ◌<◌, ◌≤◌, ◌^◌, true, List, Option, Some, None, codes, decimal}
use Rattle.call_values.specs.declared.{bounds.TheConstants.LAST_BASE, choices.Band.Band}
use Rattle.call_values.specs.declared.choices.Band.TheVariants.{Mf, Hf, Vhf}
use Rattle.call_values.specs.Identity.{IsMmsi}
use Rattle.call_texts.specs.CallGrammar.{identity}
use Rattle.line_grammar.specs.Shapes.{digits}
use Rattle.line_grammar.specs.Tokens.{Token, free_number, is_digit}
use Rattle.line_grammar.specs.Grammar.{Grammar, word, field, either, Parts, part, first, second}
use Rattle.line_grammar.specs.Sections.{labelled, nth, last}
use Rattle.traffic_lines.specs.declared.lines.StationOwn.{StationOwn}
use Rattle.traffic_lines.specs.declared.lines.StationOwn.TheVariants as own
use Rattle.line_grammar.specs.Rows.{IsWritten}
use Rattle.traffic_lines.specs.declared.lines.ShipOwn.{ShipOwn}
use Rattle.traffic_lines.specs.declared.lines.CoastOwn.{CoastOwn}
use Rattle.traffic_lines.specs.declared.lines.Hearing.{Hearing}
use Rattle.traffic_lines.specs.declared.lines.Event as events
use Rattle.traffic_lines.specs.declared.lines.Event.TheVariants.{Does, Comes}
use Rattle.traffic_lines.specs.declared.lines.Deed.{Deed}
use Rattle.traffic_lines.specs.declared.lines.Deed.TheVariants.{Own, Tick, Send, Answer}
use Rattle.traffic_lines.specs.declared.lines.StationLine.{StationLine}
use Rattle.traffic_lines.specs.declared.lines.StationLine.TheVariants as station_line
use Rattle.traffic_lines.specs.declared.lines.ShipLine.{ShipLine}
use Rattle.traffic_lines.specs.declared.lines.ShipLine.TheVariants as body
use Rattle.traffic_lines.specs.declared.lines.Point.{Point}
use Rattle.traffic_lines.specs.declared.lines.Point.TheVariants as point
use Rattle.traffic_lines.specs.declared.lines.TrafficLine.{TrafficLine}
use Rattle.traffic_lines.specs.declared.lines.TrafficLine.TheVariants.{Ship, Coast, Base, Group, Event}
use Rattle.traffic_lines.specs.Events.{number, ship_rows, ship_parts, IsShipOwn, coast_rows, coast_parts, IsCoastOwn, station_rows, station_parts, IsStationOwn, hearing_rows, hearing_parts, IsHearing, event, event_parts, IsEvent}

-- ---- the lines in front of the events

-- station ship 232001234
abbrev pub ship : Grammar → Grammar
ship rest = labelled (codes "station ship ") identity rest

-- a coast station's band
abbrev pub band : Grammar → Grammar
band rest = either (word (codes " mf") rest) (either (word (codes " hf") rest) (word (codes " vhf") rest))

-- the part that names a band
abbrev pub band_parts : Band → Parts → Parts
band_parts Mf rest = nth 0 rest
band_parts Hf rest = nth 1 rest
band_parts Vhf rest = last 2 rest

-- station coast 002320001 mf
abbrev pub coast : Token → Grammar → Grammar
coast party rest = labelled (codes "station coast ") party (band rest)

-- the parts of a coast station's line
abbrev pub coast_station_parts : ℕ × Band → Parts → Parts
coast_station_parts says rest = part (digits 9 says.0) (band_parts says.1 rest)

-- the rows of the first line of a traffic file
abbrev pub stations : Grammar → Grammar
stations rest = either (ship rest) (coast identity rest)

-- the parts of the first line of a traffic file
abbrev pub stations_parts : StationLine → Parts → Parts
stations_parts (station_line.Ship mmsi) rest = nth 0 (part (digits 9 mmsi) rest)
stations_parts (station_line.Coast mmsi band) rest = last 1 (coast_station_parts (mmsi, band) rest)

-- the first line of a traffic file, its identity in its range
abbrev pub IsStation : StationLine → Type 0
IsStation (station_line.Ship mmsi) = IsMmsi mmsi
IsStation (station_line.Coast mmsi band) = IsMmsi mmsi

-- base 1780000000
abbrev pub base : Grammar → Grammar
base rest = labelled (codes "base ") (free_number 0 LAST_BASE) rest

-- the parts of the base's line
abbrev pub base_parts : ℕ → Parts → Parts
base_parts s rest = part (decimal s) rest

-- a base in its range
abbrev pub IsBase : ℕ → Type 0
IsBase s = s ≤ LAST_BASE

-- group 023200001
abbrev pub group : Grammar → Grammar
group rest = labelled (codes "group ") identity rest

-- the parts of a group's line
abbrev pub group_parts : ℕ → Parts → Parts
group_parts mmsi rest = part (digits 9 mmsi) rest

-- ---- events at their moments

-- a moment in milliseconds, a blank, and what happens then: 5000 tick
abbrev pub at_moment : (Grammar → Grammar) → Grammar → Grammar
at_moment event rest = field number (word (codes " ") (event rest))

-- the parts of a moment, and of what happens at it
abbrev pub moment_parts : {E : Type 0} → (E → Parts → Parts) → ℕ × E → Parts → Parts
moment_parts parts says rest = part (decimal says.0) (parts says.1 rest)

-- a moment in its range, and an event in its ranges
abbrev pub IsAtMoment : {E : Type 0} → (E → Type 0) → ℕ × E → Type 0
IsAtMoment lawful says = (says.0 < 2 ^ 32) × lawful says.1

-- the event lines of a ship
abbrev pub ship_event : Grammar → Grammar
ship_event rest = at_moment (event ship_rows hearing_rows) rest

-- the event lines of a coast station
abbrev pub coast_event : Grammar → Grammar
coast_event rest = at_moment (event coast_rows hearing_rows) rest

-- the row of an event line of either kind of station
abbrev pub station_event : Grammar → Grammar
station_event rest = at_moment (event station_rows hearing_rows) rest

-- the parts of an event line of a ship
abbrev pub ship_event_parts : ℕ × events.Event ShipOwn Hearing → Parts → Parts
ship_event_parts = moment_parts (event_parts ship_parts hearing_parts)

-- the parts of an event line of a coast station
abbrev pub coast_event_parts : ℕ × events.Event CoastOwn Hearing → Parts → Parts
coast_event_parts = moment_parts (event_parts coast_parts hearing_parts)

-- the parts of an event line of either kind of station
abbrev pub station_event_parts : ℕ × events.Event StationOwn Hearing → Parts → Parts
station_event_parts = moment_parts (event_parts station_parts hearing_parts)

-- an event line of a ship's file, each part in its range
abbrev pub IsShipEvent : ℕ × events.Event ShipOwn Hearing → Type 0
IsShipEvent = IsAtMoment (IsEvent IsShipOwn IsHearing)

-- an event line of a coast station, each part in its range
abbrev pub IsCoastEvent : ℕ × events.Event CoastOwn Hearing → Type 0
IsCoastEvent = IsAtMoment (IsEvent IsCoastOwn IsHearing)

-- an event line of a station of either kind, each part in its range
abbrev pub IsStationEvent : ℕ × events.Event StationOwn Hearing → Type 0
IsStationEvent = IsAtMoment (IsEvent IsStationOwn IsHearing)

-- a group or an event of a ship
abbrev pub ship_lines : Grammar → Grammar
ship_lines rest = either (group rest) (ship_event rest)

-- the parts of a line of a ship's file after the base
abbrev pub ship_lines_parts : ShipLine → Parts → Parts
ship_lines_parts (body.Group mmsi) rest = nth 0 (group_parts mmsi rest)
ship_lines_parts (body.Event at what) rest = last 1 (ship_event_parts (at, what) rest)

-- a line of a ship's file after the base, each part in its range
abbrev pub IsShipLine : ShipLine → Type 0
IsShipLine (body.Group mmsi) = IsMmsi mmsi
IsShipLine (body.Event at what) = IsShipEvent (at, what)

-- ---- all lines

-- the rows of all lines of a traffic file
abbrev pub lines : Grammar → Grammar
lines rest = either (ship rest) (either (coast identity rest) (either (base rest) (either (group rest) (station_event rest))))

-- the parts of a line of a traffic file
abbrev pub line_parts : TrafficLine → Parts → Parts
line_parts (Ship mmsi) rest = nth 0 (part (digits 9 mmsi) rest)
line_parts (Coast mmsi band) rest = nth 1 (coast_station_parts (mmsi, band) rest)
line_parts (Base s) rest = nth 2 (base_parts s rest)
line_parts (Group mmsi) rest = nth 3 (group_parts mmsi rest)
line_parts (Event at what) rest = last 4 (station_event_parts (at, what) rest)

-- its values are in their ranges
abbrev pub IsLine : TrafficLine → Type 0
IsLine (Ship mmsi) = IsMmsi mmsi
IsLine (Coast mmsi band) = IsMmsi mmsi
IsLine (Base s) = IsBase s
IsLine (Group mmsi) = IsMmsi mmsi
IsLine (Event at what) = IsStationEvent (at, what)

-- the text of a line
abbrev pub IsLineText : TrafficLine → List ℕ → Type 0
IsLineText line text = IsWritten lines IsLine line_parts line text

-- the first byte of a line: the s of station, the b of base, the g of group, or a digit of the moment
abbrev pub IsFirstByte : TrafficLine → ℕ → Type 0
IsFirstByte (Ship mmsi) b = b ≡ 115
IsFirstByte (Coast mmsi band) b = b ≡ 115
IsFirstByte (Base s) b = b ≡ 98
IsFirstByte (Group mmsi) b = b ≡ 103
IsFirstByte (Event at what) b = is_digit b ≡ true

-- a deed with what a kind of station alone does under another name
abbrev pub deed_with : {O P : Type 0} → (O → P) → Deed O → Deed P
deed_with name (Own what) = Own (name what)
deed_with name Tick = Tick
deed_with name (Answer k accepts) = Answer k accepts
deed_with name (Send call) = Send call

-- an event with what a kind of station alone does under another name
abbrev pub event_with : {O P C : Type 0} → (O → P) → events.Event O C → events.Event P C
event_with name (Comes what) = Comes what
event_with name (Does deed) = Does (deed_with name deed)

-- the events of a ship: it accepts and relays no alert of another
abbrev pub IsOfShip : events.Event StationOwn Hearing → Type 0
IsOfShip (Does (Own (own.Coast what))) = ⊥
IsOfShip _ = Unit {0}

-- the events of a coast station: it has no position and no alert of its own
abbrev pub IsOfCoast : events.Event StationOwn Hearing → Type 0
IsOfCoast (Does (Own (own.Ship what))) = ⊥
IsOfCoast _ = Unit {0}

-- which lines may come at a point: groups of a ship up to the sixteenth, and events of the station that the file names,
-- none before the base
abbrev pub MayStand : Point → TrafficLine → Type 0
MayStand point.Station (Ship mmsi) = Unit {0}
MayStand point.Station (Coast mmsi band) = Unit {0}
MayStand point.Base (Base s) = Unit {0}
MayStand (point.Groups held) (Group mmsi) = held < 16
MayStand (point.Groups held) (Event at what) = IsOfShip what
MayStand point.Ship (Event at what) = IsOfShip what
MayStand point.Coast (Event at what) = IsOfCoast what
MayStand _ _ = ⊥

-- the lines of a point
abbrev pub IsTrafficLine : Point → TrafficLine → List ℕ → Type 0
IsTrafficLine point line text = MayStand point line × IsLineText line text

-- ---- what is read at a point, among all lines

-- the first line of a traffic file, as a line of any point
abbrev pub line_of_station : StationLine → TrafficLine
line_of_station (station_line.Ship mmsi) = Ship mmsi
line_of_station (station_line.Coast mmsi band) = Coast mmsi band

-- a line after the base of a ship's file
abbrev pub line_of_ship : ShipLine → TrafficLine
line_of_ship (body.Group mmsi) = Group mmsi
line_of_ship (body.Event at what) = Event at (event_with own.Ship what)

-- a moment and an event in a ship's file
abbrev pub line_of_ship_event : ℕ × events.Event ShipOwn Hearing → TrafficLine
line_of_ship_event says = Event says.0 (event_with own.Ship says.1)

-- a moment and an event in a coast station's file
abbrev pub line_of_coast : ℕ × events.Event CoastOwn Hearing → TrafficLine
line_of_coast says = Event says.0 (event_with own.Coast says.1)

-- the point of a line after so many groups of a ship, and after its events
abbrev pub ship_point : Option ℕ → Point
ship_point (Some held) = point.Groups held
ship_point None = point.Ship

-- no group may come after so many groups, nor after an event
abbrev pub IsFull : Option ℕ → Type 0
IsFull (Some held) = 16 ≤ held
IsFull None = Unit {0}
