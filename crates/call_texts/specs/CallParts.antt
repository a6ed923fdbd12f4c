-- The parts of call texts: this project's profile.
use Rattle.std.specs.Prelude.{ℕ, ◌+◌, Bool, if◌then◌else◌, List, [], ◌++◌, Option, Some, None, codes}
use Rattle.dsc_symbols.specs.declared.ends.TheConstants.{ACKNOWLEDGE_RQ, ACKNOWLEDGE_BQ, EOS}
use Rattle.call_values.specs.declared.positions.Fix.{Fix}
use Rattle.call_values.specs.Areas.{Rectangle}
use Rattle.call_values.specs.declared.calls.Casualty.{Casualty}
use Rattle.call_values.specs.declared.calls.Call.{Call}
use Rattle.call_values.specs.declared.calls.Call.TheVariants.{Alert, Ack, Relay, RelayAck, AllShips, AreaCall, GroupCall, Individual, Service}
use Rattle.call_values.specs.declared.choices.Category.{Category}
use Rattle.call_values.specs.declared.fields.FieldKind.{FieldKind}
use Rattle.call_values.specs.declared.fields.FieldKind.TheVariants.{Absent, Hundreds, Hf, Vhf, Tens}
use Rattle.call_values.specs.declared.parts.To.{To}
use Rattle.call_values.specs.declared.parts.To.TheVariants as to
use Rattle.call_values.specs.declared.parts.Message.{Message}
use Rattle.call_values.specs.declared.parts.Message.TheVariants.{Fields, At}
use Rattle.call_values.specs.declared.parts.Kind.{Kind}
use Rattle.call_values.specs.declared.parts.Kind.TheVariants.{Test, AskPosition, Position}
use Rattle.call_grammar.specs.Spelling.{category_symbol, end_symbol}
use Rattle.call_values.specs.declared.bounds.TheConstants as bounds
use Rattle.expansion.specs.declared.parts.PartKind.{PartKind}
use Rattle.expansion.specs.declared.parts.PartKind.TheVariants.{LeftOut, NoInformation, Digits}
use Rattle.expansion.specs.declared.values.Sets.{Sets}
use Rattle.line_grammar.specs.Shapes.{digits}
use Rattle.line_grammar.specs.Grammar.{Grammar, finish, Parts, none, part, first, second, written}
use Rattle.call_texts.specs.CallGrammar as grammar

-- the digits of a position; nines where it is not known
abbrev pub position_text : Option Fix → List ℕ
position_text (Some f) = digits 1 f.quadrant ++ ((digits 2 f.lat_deg ++ digits 2 f.lat_min) ++ (digits 3 f.lon_deg ++ digits 2 f.lon_min))
position_text None = codes "9999999999"

-- the digits of hour and minute; eights where they are not known
abbrev pub time_text : Option (ℕ × ℕ) → List ℕ
time_text (Some time) = digits 2 time.0 ++ digits 2 time.1
time_text None = codes "8888"

-- the digits of an area
abbrev pub area_text : Rectangle → List ℕ
area_text a = digits 1 a.quadrant ++ (digits 2 a.latitude ++ (digits 3 a.longitude ++ (digits 2 a.south ++ digits 2 a.east)))

-- the digits of a frequency or channel as on air
abbrev pub frequency_text : FieldKind → List ℕ
frequency_text Absent = codes "none"
frequency_text (Hundreds n) = digits 6 n
frequency_text (Hf n) = digits 6 (bounds.HF_CHANNELS + n)
frequency_text (Vhf n) = digits 6 (bounds.VHF_CHANNELS + n)
frequency_text (Tens n) = digits 8 (bounds.TENS + n)

-- who a relay is addressed to
abbrev pub address_text : To → List ℕ
address_text to.All = codes "all"
address_text (to.Area a) = codes "area:" ++ area_text a
address_text (to.Group mmsi) = codes "group:" ++ digits 9 mmsi
address_text (to.One mmsi) = codes "one:" ++ digits 9 mmsi

-- nature of distress, position, time and subsequent communications
abbrev pub casualty_parts : Casualty → Parts → Parts
casualty_parts c rest = part (digits 3 c.nature) (part (position_text c.position) (part (time_text c.time) (part (digits 3 c.comm) rest)))

-- the identity of a ship in distress, and its fields as a casualty
abbrev pub ship_in_distress_parts : Casualty → Parts → Parts
ship_in_distress_parts c rest = part (digits 9 c.mmsi) (casualty_parts c rest)

-- the sender, and a casualty that is another ship
abbrev pub distress_parts : ℕ → Casualty → Parts → Parts
distress_parts from c rest = part (digits 9 from) (ship_in_distress_parts c rest)

-- the category and the sender
abbrev pub sender_parts : Category → ℕ → Parts → Parts
sender_parts category from rest = part (digits 3 (category_symbol category)) (part (digits 9 from) rest)

-- the category, the sender and two telecommands
abbrev pub request_parts : Category → ℕ → ℕ → ℕ → Parts → Parts
request_parts category from one two rest = sender_parts category from (part (digits 3 one) (part (digits 3 two) rest))

-- two frequencies or channels
abbrev pub frequencies_parts : FieldKind → FieldKind → Parts → Parts
frequencies_parts f1 f2 rest = part (frequency_text f1) (part (frequency_text f2) rest)

-- two frequencies or channels, or a position
abbrev pub message_parts : Message → Parts → Parts
message_parts (Fields f1 f2) rest = first (frequencies_parts f1 f2 rest)
message_parts (At position) rest = second (part (position_text position) rest)

-- the end of sequence of a relay, which may ask for an acknowledgement
abbrev pub relay_end : Bool → ℕ
relay_end ask = if ask then ACKNOWLEDGE_RQ else EOS

-- the end of sequence of a test, and of the reply to one
abbrev pub test_end : Bool → ℕ
test_end reply = if reply then ACKNOWLEDGE_BQ else ACKNOWLEDGE_RQ

-- an end of sequence
abbrev pub end_parts : ℕ → Parts → Parts
end_parts symbol rest = part (digits 3 symbol) rest

-- the parts of a test, of a call that asks for a position, and of one that gives it
abbrev pub service_parts : ℕ → Category → ℕ → Kind → Parts → Parts
service_parts to category from (Test reply) rest = part (digits 9 to) (sender_parts category from (end_parts (test_end reply) rest))
service_parts to category from AskPosition rest = part (digits 9 to) (sender_parts category from rest)
service_parts to category from (Position position time) rest =
    part (digits 9 to) (sender_parts category from (part (position_text position) (part (time_text time) rest)))

-- the parts of a call's text, and of what comes after it
abbrev pub parts_of : Call → Parts → Parts
parts_of (Alert casualty) rest = part (digits 9 casualty.mmsi) (casualty_parts casualty rest)
parts_of (Ack from casualty) rest = distress_parts from casualty rest
parts_of (Relay to from casualty ask) rest = part (address_text to) (distress_parts from casualty (end_parts (relay_end ask) rest))
parts_of (RelayAck to from casualty) rest = part (address_text to) (distress_parts from casualty rest)
parts_of (AllShips category from one two f1 f2) rest = request_parts category from one two (frequencies_parts f1 f2 rest)
parts_of (AreaCall area category from one two f1 f2) rest =
    part (area_text area) (request_parts category from one two (frequencies_parts f1 f2 rest))
parts_of (GroupCall group category from one two f1 f2) rest =
    part (digits 9 group) (request_parts category from one two (frequencies_parts f1 f2 rest))
parts_of (Individual to category from one two message end) rest =
    part (digits 9 to) (request_parts category from one two (message_parts message (end_parts (end_symbol end) rest)))
parts_of (Service to category from kind) rest = service_parts to category from kind rest

-- the grammar of a call's form, and of what comes after it
abbrev pub form_of : Call → Grammar → Grammar
form_of (Alert casualty) = grammar.alert
form_of (Ack from casualty) = grammar.ack
form_of (Relay to from casualty ask) = grammar.relay
form_of (RelayAck to from casualty) = grammar.relay_ack
form_of (AllShips category from one two f1 f2) = grammar.all_ships
form_of (AreaCall area category from one two f1 f2) = grammar.area_call
form_of (GroupCall group category from one two f1 f2) = grammar.group_call
form_of (Individual to category from one two message end) = grammar.individual
form_of (Service to category from (Test reply)) = grammar.test
form_of (Service to category from AskPosition) = grammar.position_request
form_of (Service to category from (Position position time)) = grammar.position_answer

-- a call's text: the parts as the grammar of its form writes them
unfoldable pub call_text : Call → List ℕ
call_text call = written (form_of call finish) (parts_of call none)

-- a set's value: its digits, or none
abbrev pub set_text : ℕ → PartKind → List ℕ
set_text width LeftOut = []
set_text width NoInformation = codes "none"
set_text width (Digits n) = digits width n

-- a set that may be left out
abbrev pub perhaps_parts : ℕ → PartKind → Parts → Parts
perhaps_parts width LeftOut rest = first rest
perhaps_parts width kind rest = second (part (set_text width kind) rest)

-- the parts of an expansion's text, from its first set on, and of what comes after it
abbrev pub set_parts : PartKind → PartKind → PartKind → Parts → Parts
set_parts LeftOut LeftOut course rest = second (second (part (set_text 4 course) rest))
set_parts LeftOut speed course rest = second (first (part (set_text 4 speed) (perhaps_parts 4 course rest)))
set_parts enhanced speed course rest = first (part (set_text 8 enhanced) (perhaps_parts 4 speed (perhaps_parts 4 course rest)))

-- the parts of an expansion's text
abbrev pub expansion_parts : Sets → Parts → Parts
expansion_parts x rest = set_parts x.enhanced x.speed x.course rest

-- an expansion's text: the parts as its grammar writes them
unfoldable pub expansion_text : Sets → List ℕ
expansion_text x = written (grammar.expansion finish) (expansion_parts x none)
