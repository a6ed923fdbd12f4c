-- The events of event lines, a row for each with its parts beside it and an example above it: this project's profile.
use Rattle.std.specs.Prelude.{ℕ, ◌≤◌, ◌<◌, ◌^◌, Bool, true, false, List, Option, Some, None, codes, decimal}
use Rattle.call_values.specs.declared.bounds.TheConstants as bounds
use Rattle.call_values.specs.Calls.{IsCall}
use Rattle.call_values.specs.Delays.{IsAlertDelay, IsCoastDelay}
use Rattle.call_values.specs.Identity.{IsMmsi}
use Rattle.call_values.specs.Parts.{IsTo}
use Rattle.call_values.specs.Positions.{IsPosition}
use Rattle.dsc_symbols.specs.Natures.{IsNature}
use Rattle.dsc_symbols.specs.Telecommands.{IsComm}
use Rattle.call_texts.specs.CallGrammar as calls
use Rattle.call_texts.specs.CallGrammar.{perhaps, expansion}
use Rattle.call_texts.specs.CallParts.{address_text, position_text}
use Rattle.call_texts.specs.Texts.{IsWholeOrAbsent, extra_of}
use Rattle.call_texts.specs.inside.Expansions.{tail_parts}
use Rattle.call_texts.specs.inside.Places.{call_parts}
use Rattle.line_grammar.specs.declared.decimal.TheConstants.{LARGEST_NUMBER}
use Rattle.line_grammar.specs.Shapes.{digits}
use Rattle.line_grammar.specs.Tokens.{Token, free_number}
use Rattle.line_grammar.specs.Grammar.{Grammar, word, either, Parts, part, first, second}
use Rattle.line_grammar.specs.Sections.{labelled, nth, last}
use Rattle.traffic_lines.specs.declared.{lines.ShipOwn.ShipOwn, lines.CoastOwn.CoastOwn, lines.StationOwn.StationOwn, lines.Hearing.Hearing, lines.Deed.Deed, lines.Event.Event}
use Rattle.traffic_lines.specs.declared.lines.ShipOwn.TheVariants.{Position, Delay, Alert, Cancel}
use Rattle.traffic_lines.specs.declared.lines.CoastOwn.TheVariants.{Accept, Relay}
use Rattle.traffic_lines.specs.declared.lines.StationOwn.TheVariants as own
use Rattle.traffic_lines.specs.declared.lines.Hearing.TheVariants.{Hear, Heard}
use Rattle.traffic_lines.specs.declared.lines.Deed.TheVariants.{Own, Tick, Send, Answer}
use Rattle.traffic_lines.specs.declared.lines.Event.TheVariants.{Does, Comes}

-- the number of a call that is held
abbrev pub IsHeldNumber : ℕ → Type 0
IsHeldNumber k = (1 ≤ k) × (k ≤ 16)

-- the number of a held call in a line: 1 to 16
abbrev pub held : Token
held = free_number 1 16

-- a number of lines: a moment, a group, a call that was sent
abbrev pub number : Token
number = free_number 0 LARGEST_NUMBER

-- ---- a ship's own

-- position 0100200302
abbrev pub position : Grammar → Grammar
position rest = labelled (codes "position ") calls.position rest

-- delay 240000
abbrev pub delay : Grammar → Grammar
delay rest = labelled (codes "delay ") (free_number bounds.SHORTEST_ALERT_DELAY bounds.LONGEST_ALERT_DELAY) rest

-- alert nature=101 then=109
abbrev pub alert : Grammar → Grammar
alert rest = labelled (codes "alert nature=") calls.nature (labelled (codes " then=") calls.comm rest)

-- cancel
abbrev pub cancel : Grammar → Grammar
cancel rest = word (codes "cancel") rest

-- the rows of what only a ship's operator does
abbrev pub ship_rows : Grammar → Grammar
ship_rows rest = either (position rest) (either (delay rest) (either (alert rest) (cancel rest)))

-- the parts of what only a ship's operator does
abbrev pub ship_parts : ShipOwn → Parts → Parts
ship_parts (Position p) rest = nth 0 (part (position_text p) rest)
ship_parts (Delay ms) rest = nth 1 (part (decimal ms) rest)
ship_parts (Alert nature comm) rest = nth 2 (part (digits 3 nature) (part (digits 3 comm) rest))
ship_parts Cancel rest = last 3 rest

-- its values are in their ranges
abbrev pub IsShipOwn : ShipOwn → Type 0
IsShipOwn (Position p) = IsPosition p
IsShipOwn (Delay ms) = IsAlertDelay ms
IsShipOwn (Alert nature comm) = IsNature nature × IsComm comm
IsShipOwn Cancel = Unit {0}

-- ---- a coast station's own

-- a blank and a delay, or nothing where none is given
abbrev pub some_delay : Grammar → Grammar
some_delay rest = labelled (codes " ") (free_number bounds.SHORTEST_COAST_DELAY bounds.LONGEST_COAST_DELAY) rest

-- the row of a delay that may be absent
abbrev pub perhaps_delay : Grammar → Grammar
perhaps_delay rest = perhaps some_delay rest

-- the part of a delay that may be absent
abbrev pub delay_parts : Option ℕ → Parts → Parts
delay_parts None rest = first rest
delay_parts (Some ms) rest = second (part (decimal ms) rest)

-- no delay, or one in its range
abbrev pub IsPerhapsDelay : Option ℕ → Type 0
IsPerhapsDelay None = Unit {0}
IsPerhapsDelay (Some ms) = IsCoastDelay ms

-- whether a relay asks for an acknowledgement
abbrev pub ask_or_tell : Grammar → Grammar
ask_or_tell rest = either (word (codes " ask") rest) (word (codes " tell") rest)

-- the part that says whether an acknowledgement is asked for
abbrev pub ask_parts : (ask : Bool) → Parts → Parts
ask_parts true rest = first rest
ask_parts false rest = second rest

-- accept 232001234, or accept 232001234 60000
abbrev pub accept : Grammar → Grammar
accept rest = labelled (codes "accept ") calls.identity (perhaps_delay rest)

-- relay 232001234 to=all ask
abbrev pub relay : Grammar → Grammar
relay rest = labelled (codes "relay ") calls.identity (labelled (codes " to=") calls.address (ask_or_tell rest))

-- the rows of what only a coast station's operator does
abbrev pub coast_rows : Grammar → Grammar
coast_rows rest = either (accept rest) (relay rest)

-- the parts of what only a coast station's operator does
abbrev pub coast_parts : CoastOwn → Parts → Parts
coast_parts (Accept ship delay) rest = nth 0 (part (digits 9 ship) (delay_parts delay rest))
coast_parts (Relay ship to ask) rest = last 1 (part (digits 9 ship) (part (address_text to) (ask_parts ask rest)))

-- what only a coast station's operator does, each part in its range
abbrev pub IsCoastOwn : CoastOwn → Type 0
IsCoastOwn (Accept ship delay) = IsMmsi ship × IsPerhapsDelay delay
IsCoastOwn (Relay ship to ask) = IsMmsi ship × IsTo to

-- ---- of either kind of station

-- the rows of what only one kind of station does
abbrev pub station_rows : Grammar → Grammar
station_rows rest = either (ship_rows rest) (coast_rows rest)

-- the parts of what only one kind of station does
abbrev pub station_parts : StationOwn → Parts → Parts
station_parts (own.Ship what) rest = first (ship_parts what rest)
station_parts (own.Coast what) rest = second (coast_parts what rest)

-- what only one kind of station does, each part in its range
abbrev pub IsStationOwn : StationOwn → Type 0
IsStationOwn (own.Ship what) = IsShipOwn what
IsStationOwn (own.Coast what) = IsCoastOwn what

-- ---- what a station hears, and which of the other end's calls comes to it

-- hear and the text of a call, after which an expansion may come that says nothing: hear ack from=002320001
-- casualty=232001234 ..
abbrev pub hear : Grammar → Grammar
hear rest = word (codes "hear ") (calls.calls (perhaps expansion rest))

-- heard g7
abbrev pub heard : Grammar → Grammar
heard rest = labelled (codes "heard g") number rest

-- the rows of what is heard: a call, or a group
abbrev pub hearing_rows : Grammar → Grammar
hearing_rows rest = either (hear rest) (heard rest)

-- the parts of a heard call or group
abbrev pub hearing_parts : Hearing → Parts → Parts
hearing_parts (Hear call tail) rest = nth 0 (call_parts call (tail_parts tail rest))
hearing_parts (Heard group) rest = last 1 (part (decimal group) rest)

-- a heard call or group, each part in its range
abbrev pub IsHearing : Hearing → Type 0
IsHearing (Hear call tail) = IsCall call × IsWholeOrAbsent (extra_of tail)
IsHearing (Heard group) = group < 2 ^ 32

-- get 0
abbrev pub get : Grammar → Grammar
get rest = labelled (codes "get ") number rest

-- the part of a delivery's number
abbrev pub get_parts : ℕ → Parts → Parts
get_parts n rest = part (decimal n) rest

-- the number of a delivery is in its range
abbrev pub IsGet : ℕ → Type 0
IsGet n = n < 2 ^ 32

-- ---- what a station does: what its kind alone does, and what each does

-- tick
abbrev pub tick : Grammar → Grammar
tick rest = word (codes "tick") rest

-- answer 3
abbrev pub answer : Grammar → Grammar
answer rest = labelled (codes "answer ") held rest

-- decline 3
abbrev pub decline : Grammar → Grammar
decline rest = labelled (codes "decline ") held rest

-- send and the text of a call, after which nothing comes
abbrev pub send : Grammar → Grammar
send rest = word (codes "send ") (calls.calls rest)

-- the rows of the events of a station's own
abbrev pub deeds : (own : Grammar → Grammar) → Grammar → Grammar
deeds own rest = either (own rest) (either (tick rest) (either (answer rest) (either (decline rest) (send rest))))

-- the parts of an event of a station's own
abbrev pub deed_parts : {O : Type 0} → (O → Parts → Parts) → Deed O → Parts → Parts
deed_parts own (Own what) rest = nth 0 (own what rest)
deed_parts own Tick rest = nth 1 rest
deed_parts own (Answer k true) rest = nth 2 (part (decimal k) rest)
deed_parts own (Answer k false) rest = nth 3 (part (decimal k) rest)
deed_parts own (Send call) rest = last 4 (call_parts call rest)

-- an event of a station's own, each part in its range
abbrev pub IsDeed : {O : Type 0} → (O → Type 0) → Deed O → Type 0
IsDeed own (Own what) = own what
IsDeed own Tick = Unit {0}
IsDeed own (Answer k accepts) = IsHeldNumber k
IsDeed own (Send call) = IsCall call

-- ---- events: what comes to a station, or what it does

-- the rows of events: what comes from outside, and a station's own
abbrev pub event : (own comes : Grammar → Grammar) → Grammar → Grammar
event own comes rest = either (comes rest) (deeds own rest)

-- the parts of an event
abbrev pub event_parts : {O C : Type 0} → (O → Parts → Parts) → (C → Parts → Parts) → Event O C → Parts → Parts
event_parts own comes (Comes what) rest = nth 0 (comes what rest)
event_parts own comes (Does deed) rest = last 1 (deed_parts own deed rest)

-- an event, each part in its range
abbrev pub IsEvent : {O C : Type 0} → (O → Type 0) → (C → Type 0) → Event O C → Type 0
IsEvent own comes (Comes what) = comes what
IsEvent own comes (Does deed) = IsDeed own deed
