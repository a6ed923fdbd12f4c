-- The lists of calls: ITU-R M.493, composition of call sequences and their fields.
use Rattle.std.specs.Prelude.{ℕ, zero, suc, ◌+◌, ◌*◌, Bool, if◌then◌else◌, List, [], ◌∷◌, ◌++◌, Option, Some, None}
use Rattle.dsc_symbols.specs.declared.formats.TheConstants as formats
use Rattle.dsc_symbols.specs.declared.categories.TheConstants as categories
use Rattle.dsc_symbols.specs.declared.telecommands.TheConstants as telecommands
use Rattle.dsc_symbols.specs.declared.ends.TheConstants as ends
use Rattle.dsc_symbols.specs.declared.messages.TheConstants.{NO_INFORMATION, POSITION_FOLLOWS, UNKNOWN_POSITION, UNKNOWN_TIME}
use Rattle.call_values.specs.declared.bounds.TheConstants as bounds
use Rattle.call_values.specs.declared.positions.Fix.{Fix}
use Rattle.call_values.specs.declared.calls.Casualty.{Casualty}
use Rattle.call_values.specs.declared.calls.Call.{Call}
use Rattle.call_values.specs.declared.calls.Call.TheVariants.{Alert, Ack, Relay, RelayAck, AllShips, AreaCall, GroupCall, Individual, Service}
use Rattle.call_values.specs.declared.bodies.Body.{Body}
use Rattle.call_values.specs.declared.bodies.Body.TheVariants as body
use Rattle.call_values.specs.declared.choices.Category.{Category}
use Rattle.call_values.specs.declared.choices.Category.TheVariants.{Routine, Safety, Urgency}
use Rattle.call_values.specs.declared.fields.FieldKind.{FieldKind}
use Rattle.call_values.specs.declared.fields.FieldKind.TheVariants.{Absent, Hundreds, Hf, Vhf, Tens}
use Rattle.call_values.specs.declared.parts.To.{To}
use Rattle.call_values.specs.declared.parts.To.TheVariants as to
use Rattle.call_values.specs.declared.parts.Message.{Message}
use Rattle.call_values.specs.declared.parts.Message.TheVariants.{Fields, At}
use Rattle.call_values.specs.declared.parts.Kind.{Kind}
use Rattle.call_values.specs.declared.parts.Kind.TheVariants.{Test, AskPosition, Position}
use Rattle.call_values.specs.Areas.{Rectangle}
pub use Rattle.call_values.specs.Ends.{end_symbol, end_named}
use Rattle.call_values.specs.Views.{address_of, body_of}
unfoldable pub use Rattle.symbol_reader.specs.Digits.{ten_digits, eight_digits, six_digits}
unfoldable pub use Rattle.symbol_reader.specs.Checks.{check_of}

-- nine digits and a 0: 338040079 is 33 80 40 07 90
abbrev pub identity_symbols : ℕ → List ℕ
identity_symbols n = ten_digits (10 * n)

-- a quadrant in one digit, a latitude in four and a longitude in five
unfoldable pub position_digits : Fix → ℕ
position_digits f = 1000000000 * f.quadrant + 10000000 * f.lat_deg + 100000 * f.lat_min + 100 * f.lon_deg + f.lon_min

-- the digits of a position, and 99 five times where it is not known
abbrev pub position_symbols : Option Fix → List ℕ
position_symbols (Some f) = ten_digits (position_digits f)
position_symbols None = UNKNOWN_POSITION ∷ UNKNOWN_POSITION ∷ UNKNOWN_POSITION ∷ UNKNOWN_POSITION ∷ UNKNOWN_POSITION ∷ []

-- hour and minute, and 88 twice where they are not known
abbrev pub time_symbols : Option (ℕ × ℕ) → List ℕ
time_symbols (Some t) = t.0 ∷ t.1 ∷ []
time_symbols None = UNKNOWN_TIME ∷ UNKNOWN_TIME ∷ []

-- identity, nature of distress, position, time and subsequent communications
abbrev pub casualty_symbols : Casualty → List ℕ
casualty_symbols c =
    identity_symbols c.mmsi ++ (c.nature ∷ (position_symbols c.position ++ (time_symbols c.time ++ (c.comm ∷ []))))

-- a quadrant in one digit, a latitude in two, a longitude in three, and two sides in two each
unfoldable pub area_digits : Rectangle → ℕ
area_digits a = 1000000000 * a.quadrant + 10000000 * a.latitude + 10000 * a.longitude + 100 * a.south + a.east

-- an area's five characters
abbrev pub area_symbols : Rectangle → List ℕ
area_symbols a = ten_digits (area_digits a)

-- the character of no information, so many times
abbrev pub blanks : ℕ → List ℕ
blanks zero = []
blanks (suc n) = NO_INFORMATION ∷ blanks n

-- six digits, 3 and five digits, 90 and four digits, 4 and seven digits; three characters of no information where the
-- field is absent
abbrev pub field_symbols : FieldKind → List ℕ
field_symbols Absent = NO_INFORMATION ∷ NO_INFORMATION ∷ NO_INFORMATION ∷ []
field_symbols (Hundreds n) = six_digits n
field_symbols (Hf n) = six_digits (bounds.HF_CHANNELS + n)
field_symbols (Vhf n) = six_digits (bounds.VHF_CHANNELS + n)
field_symbols (Tens n) = eight_digits (bounds.TENS + n)

-- two fields, or 55 and a position
abbrev pub message_symbols : Message → List ℕ
message_symbols (Fields f1 f2) = field_symbols f1 ++ field_symbols f2
message_symbols (At position) = POSITION_FOLLOWS ∷ position_symbols position

-- the categories routine, safety and urgency
abbrev pub category_symbol : Category → ℕ
category_symbol Routine = categories.ROUTINE
category_symbol Safety = categories.SAFETY
category_symbol Urgency = categories.URGENCY

-- the format specifiers of calls to all ships, to an area, to a group and to one station
abbrev pub format_to : To → ℕ
format_to to.All = formats.ALL_SHIPS
format_to (to.Area area) = formats.AREA
format_to (to.Group mmsi) = formats.GROUP
format_to (to.One mmsi) = formats.INDIVIDUAL

-- the address: none to all ships, an area, or an identity
abbrev pub address_symbols : To → List ℕ
address_symbols to.All = []
address_symbols (to.Area area) = area_symbols area
address_symbols (to.Group mmsi) = identity_symbols mmsi
address_symbols (to.One mmsi) = identity_symbols mmsi

-- the category distress, the sender, the telecommand of an acknowledgement or of a relay, and the casualty
abbrev pub distress_symbols : ℕ → ℕ → Casualty → List ℕ
distress_symbols from telecommand casualty = categories.DISTRESS ∷ (identity_symbols from ++ (telecommand ∷ casualty_symbols casualty))

-- category, sender, two telecommands, and a message
abbrev pub request_symbols : Category → ℕ → ℕ → ℕ → Message → List ℕ
request_symbols category from first second message =
    category_symbol category ∷ (identity_symbols from ++ (first ∷ second ∷ message_symbols message))

-- a test and no information; a ship's position, asked for with no information, or given with a time
abbrev pub kind_symbols : Kind → List ℕ
kind_symbols (Test reply) = telecommands.TEST ∷ blanks 7
kind_symbols AskPosition = telecommands.SHIP_POSITION ∷ NO_INFORMATION ∷ NO_INFORMATION ∷ blanks 5
kind_symbols (Position position time) =
    telecommands.SHIP_POSITION ∷ NO_INFORMATION ∷ POSITION_FOLLOWS ∷ (position_symbols position ++ time_symbols time)

-- the end of sequence of a test, of the reply to one, and of a position asked for or given
abbrev pub kind_end : Kind → ℕ
kind_end (Test reply) = if reply then ends.ACKNOWLEDGE_BQ else ends.ACKNOWLEDGE_RQ
kind_end AskPosition = ends.ACKNOWLEDGE_RQ
kind_end (Position position time) = ends.ACKNOWLEDGE_BQ

-- the format specifier: distress alerts have their own, and the others that of their address
abbrev pub format_of : Call → ℕ
format_of (Alert casualty) = formats.DISTRESS
format_of call = format_to (address_of call)

-- the telecommand of a distress call: that of the acknowledgement of an alert, or of a relay
abbrev pub distress_telecommand : Bool → ℕ
distress_telecommand acknowledges = if acknowledges then telecommands.DISTRESS_ACKNOWLEDGEMENT else telecommands.DISTRESS_RELAY

-- what a call says, without who it is addressed to
abbrev pub body_symbols : Body → List ℕ
body_symbols (body.Alert casualty) = casualty_symbols casualty
body_symbols (body.Distress from acknowledges casualty) = distress_symbols from (distress_telecommand acknowledges) casualty
body_symbols (body.Request category from first second message) = request_symbols category from first second message
body_symbols (body.Service category from kind) = category_symbol category ∷ (identity_symbols from ++ kind_symbols kind)

-- what comes between the format specifier and the end of sequence
abbrev pub fields_of : Call → List ℕ
fields_of call = address_symbols (address_of call) ++ body_symbols (body_of call)

-- the end of sequence
abbrev pub end_of : Call → ℕ
end_of (Alert casualty) = ends.EOS
end_of (Ack from casualty) = ends.EOS
end_of (Relay to from casualty ask) = if ask then ends.ACKNOWLEDGE_RQ else ends.EOS
end_of (RelayAck to from casualty) = ends.ACKNOWLEDGE_BQ
end_of (AllShips category from first second f1 f2) = ends.EOS
end_of (AreaCall area category from first second f1 f2) = ends.EOS
end_of (GroupCall group category from first second f1 f2) = ends.EOS
end_of (Individual to category from first second message end) = end_symbol end
end_of (Service to category from kind) = kind_end kind

-- what the error check covers: the format specifier once, the fields and the end of sequence
abbrev pub covered : Call → List ℕ
covered c = format_of c ∷ (fields_of c ++ (end_of c ∷ []))

-- a call's list up to its first end of sequence, the format specifier twice
abbrev pub up_to_end : Call → List ℕ
up_to_end c = format_of c ∷ covered c

-- a call's list up to its error check character
abbrev pub through_check : Call → List ℕ
through_check c = up_to_end c ++ (check_of (covered c) ∷ [])

-- a call's whole list: the end of sequence comes twice more after the check
abbrev pub spell : Call → List ℕ
spell c = through_check c ++ (end_of c ∷ end_of c ∷ [])
