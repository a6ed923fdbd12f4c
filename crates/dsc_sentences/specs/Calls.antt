-- The DSC sentence of a call, one row a field: this project's profile over the forms of ITU-R M.493.
use Rattle.std.specs.Prelude.{ℕ, zero, suc, ◌+◌, ◌*◌, ◌/◌, ◌%◌, Bool, List, [], ◌∷◌, ◌++◌, Option, Some, None}
use Rattle.dsc_symbols.specs.declared.categories.TheConstants as categories
use Rattle.dsc_symbols.specs.declared.telecommands.TheConstants as telecommands
use Rattle.dsc_symbols.specs.declared.messages.TheConstants.{NO_INFORMATION}
use Rattle.call_values.specs.declared.bounds.TheConstants as bounds
use Rattle.call_values.specs.declared.positions.Fix.{Fix}
use Rattle.call_values.specs.declared.calls.Call.{Call}
use Rattle.call_values.specs.declared.bodies.Body.{Body}
use Rattle.call_values.specs.declared.bodies.Body.TheVariants.{Alert, Distress, Request, Service}
use Rattle.call_values.specs.declared.fields.FieldKind.{FieldKind}
use Rattle.call_values.specs.declared.fields.FieldKind.TheVariants.{Absent, Hundreds, Hf, Vhf, Tens}
use Rattle.call_values.specs.declared.parts.To.{To}
use Rattle.call_values.specs.declared.parts.To.TheVariants as to
use Rattle.call_values.specs.declared.parts.Message.{Message}
use Rattle.call_values.specs.declared.parts.Message.TheVariants.{Fields, At}
use Rattle.call_values.specs.declared.parts.Kind.{Kind}
use Rattle.call_values.specs.declared.parts.Kind.TheVariants.{Test, AskPosition, Position}
use Rattle.call_values.specs.Views.{address_of, body_of, sender_of}
use Rattle.call_grammar.specs.Spelling.{position_digits, area_digits, category_symbol, distress_telecommand, format_of, end_of, end_named}
use Rattle.dsc_sentences.specs.declared.dsc.DscFields.{DscFields}

-- the last so many decimal digits of a number
unfoldable pub decimals : ℕ → ℕ → List ℕ
decimals zero n = []
decimals (suc width) n = decimals width (n / 10) ++ (n % 10) ∷ []

-- a symbol's last two digits
abbrev pub last_two : ℕ → ℕ
last_two symbol = symbol % 100

-- nine digits and a 0
abbrev pub identity_digits : ℕ → List ℕ
identity_digits mmsi = decimals 10 (10 * mmsi)

-- the area that a call is for, else its sender
abbrev pub address_digits : To → ℕ → List ℕ
address_digits (to.Area area) sender = decimals 10 (area_digits area)
address_digits to.All sender = identity_digits sender
address_digits (to.Group group) sender = identity_digits sender
address_digits (to.One station) sender = identity_digits sender

-- the category: distress, or the call's own
abbrev pub category_of : Body → ℕ
category_of (Alert casualty) = categories.DISTRESS
category_of (Distress from acknowledges casualty) = categories.DISTRESS
category_of (Request category from first second message) = category_symbol category
category_of (Service category from kind) = category_symbol category

-- the telecommand of a test, and of a ship's position
abbrev pub kind_telecommand : Kind → ℕ
kind_telecommand (Test reply) = telecommands.TEST
kind_telecommand AskPosition = telecommands.SHIP_POSITION
kind_telecommand (Position position time) = telecommands.SHIP_POSITION

-- the nature of distress of an alert, else the first telecommand
abbrev pub first_of : Body → ℕ
first_of (Alert casualty) = casualty.nature
first_of (Distress from acknowledges casualty) = distress_telecommand acknowledges
first_of (Request category from first second message) = first
first_of (Service category from kind) = kind_telecommand kind

-- what is to follow a distress call, else the second telecommand
abbrev pub second_of : Body → ℕ
second_of (Alert casualty) = casualty.comm
second_of (Distress from acknowledges casualty) = casualty.comm
second_of (Request category from first second message) = second
second_of (Service category from kind) = NO_INFORMATION

-- the digits of a position; nines where it isn't known
abbrev pub position_number : Option Fix → ℕ
position_number (Some fix) = position_digits fix
position_number None = 9999999999

-- a position in ten digits
abbrev pub position_place : Option Fix → List ℕ
position_place position = decimals 10 (position_number position)

-- the digits of a frequency or channel as on air; none where it is absent
abbrev pub frequency_place : FieldKind → List ℕ
frequency_place Absent = []
frequency_place (Hundreds n) = decimals 6 n
frequency_place (Hf n) = decimals 6 (bounds.HF_CHANNELS + n)
frequency_place (Vhf n) = decimals 6 (bounds.VHF_CHANNELS + n)
frequency_place (Tens n) = decimals 8 (bounds.TENS + n)

-- two frequencies or channels, or a position
abbrev pub message_place : Message → List ℕ
message_place (Fields f1 f2) = frequency_place f1 ++ frequency_place f2
message_place (At position) = position_place position

-- the position that a call gives
abbrev pub kind_place : Kind → List ℕ
kind_place (Test reply) = []
kind_place AskPosition = []
kind_place (Position position time) = position_place position

-- the digits of a position, or of two frequencies or channels
abbrev pub place_of : Body → List ℕ
place_of (Alert casualty) = position_place casualty.position
place_of (Distress from acknowledges casualty) = position_place casualty.position
place_of (Request category from first second message) = message_place message
place_of (Service category from kind) = kind_place kind

-- hour and minute in four digits; eights where they aren't known
abbrev pub time_number : Option (ℕ × ℕ) → ℕ
time_number (Some time) = 100 * time.0 + time.1
time_number None = 8888

-- the time at which a given position was right
abbrev pub kind_time : Kind → Option ℕ
kind_time (Test reply) = None
kind_time AskPosition = None
kind_time (Position position time) = Some (time_number time)

-- the time of a distress or of a given position
abbrev pub time_of : Body → Option ℕ
time_of (Alert casualty) = Some (time_number casualty.time)
time_of (Distress from acknowledges casualty) = Some (time_number casualty.time)
time_of (Request category from first second message) = None
time_of (Service category from kind) = kind_time kind

-- another ship in distress
abbrev pub distress_of : Body → Option (List ℕ)
distress_of (Alert casualty) = None
distress_of (Distress from acknowledges casualty) = Some (identity_digits casualty.mmsi)
distress_of (Request category from first second message) = None
distress_of (Service category from kind) = None

-- its nature of distress
abbrev pub nature_of : Body → Option ℕ
nature_of (Alert casualty) = None
nature_of (Distress from acknowledges casualty) = Some (last_two casualty.nature)
nature_of (Request category from first second message) = None
nature_of (Service category from kind) = None

-- the record of a call, one row a field
unfoldable pub of_call : Call → Bool → DscFields
of_call call expanded = record {
  format = last_two (format_of call);
  address = address_digits (address_of call) (sender_of call);
  category = Some (last_two (category_of (body_of call)));
  first = Some (last_two (first_of (body_of call)));
  second = Some (last_two (second_of (body_of call)));
  place = record { items = place_of (body_of call) };
  time = time_of (body_of call);
  distress = distress_of (body_of call);
  nature = nature_of (body_of call);
  end = end_named (end_of call);
  expanded = expanded;
}
