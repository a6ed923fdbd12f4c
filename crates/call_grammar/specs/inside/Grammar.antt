-- The grammar of the fields, by the letters that may be at each place: ITU-R M.493, fields of call sequences.
use Rattle.std.specs.Prelude.{ℕ, ◌+◌, ◌*◌, ◌/◌, ◌%◌, ◌==◌, ◌&&◌, if◌then◌else◌, zero, suc, List, [], ◌∷◌, Option, Some, None}
use Rattle.dsc_symbols.specs.declared.messages.TheConstants.{NO_INFORMATION, UNKNOWN_POSITION, VHF_CHANNEL}
use Rattle.symbol_reader.specs.declared.letters.Letter.{Letter}
use Rattle.symbol_reader.specs.declared.letters.Letter.TheVariants.{Exactly, UpTo, Digits}
use Rattle.symbol_reader.specs.Letters.{Allows}
use Rattle.symbol_reader.specs.inside.Languages.{One, Only, Then, Choice, Spelled}
use Rattle.call_values.specs.declared.positions.Fix.{Fix}
use Rattle.call_values.specs.declared.calls.Casualty.{Casualty}
use Rattle.call_values.specs.declared.calls.Call.{Call}
use Rattle.call_values.specs.declared.fields.FieldKind.{FieldKind}
use Rattle.call_values.specs.declared.fields.FieldKind.TheVariants.{Absent, Hundreds, Hf, Vhf, Tens}
use Rattle.call_values.specs.declared.parts.Message.{Message}
use Rattle.call_values.specs.Areas.{Rectangle, IsArea}
use Rattle.dsc_symbols.specs.Telecommands.{IsFirst, IsSecond}
use Rattle.call_values.specs.Fields.{IsField}
use Rattle.call_values.specs.Parts.{IsMessage}
use Rattle.call_values.specs.Identity.{IsMmsi}
use Rattle.call_values.specs.Positions.{IsPosition}
use Rattle.call_values.specs.Clock.{IsHourMinute}
use Rattle.call_values.specs.Calls.{IsCasualty, IsCall}
use Rattle.call_grammar.specs.Spelling.{identity_symbols, position_symbols, time_symbols, casualty_symbols, area_symbols, field_symbols, message_symbols, covered}

-- a symbol of this letter
abbrev pub Symbol : Letter → ℕ → List ℕ → Type 0
Symbol letter = One (Allows letter)

-- an identity's five characters
abbrev pub Identities : ℕ → List ℕ → Type 0
Identities = Spelled IsMmsi identity_symbols

-- the position's five characters
abbrev pub Positions : Option Fix → List ℕ → Type 0
Positions = Spelled IsPosition position_symbols

-- the time's two characters
abbrev pub Times : Option (ℕ × ℕ) → List ℕ → Type 0
Times = Spelled IsHourMinute time_symbols

-- the characters that describe a casualty
abbrev pub Casualties : Casualty → List ℕ → Type 0
Casualties = Spelled IsCasualty casualty_symbols

-- what the check covers of a call
abbrev pub CheckedCharacters : Call → List ℕ → Type 0
CheckedCharacters = Spelled IsCall covered

-- an area's five characters
abbrev pub Areas : Rectangle → List ℕ → Type 0
Areas = Spelled IsArea area_symbols

-- a first telecommand
abbrev pub Firsts : ℕ → List ℕ → Type 0
Firsts = Spelled IsFirst (λ n. n ∷ [])

-- a second telecommand
abbrev pub Seconds : ℕ → List ℕ → Type 0
Seconds = Spelled IsSecond (λ n. n ∷ [])

-- a frequency or channel field
abbrev pub FieldWords : FieldKind → List ℕ → Type 0
FieldWords = Spelled IsField field_symbols

-- two fields, or a position
abbrev pub Messages : Message → List ℕ → Type 0
Messages = Spelled IsMessage message_symbols

-- the number whose nine digits and a 0 are in these five characters
abbrev pub identity_of : ℕ → ℕ → ℕ → ℕ → ℕ → ℕ
identity_of a b c d e = ((a * 100 + b) * 100 + c) * 1000 + d * 10 + e / 10

-- after the tens of a latitude, its ones and the tens of its minutes: zeros alone at 90 degrees
abbrev pub latitude_ones : ℕ → Letter
latitude_ones initial = if initial % 10 == 9 then Exactly 0 else Digits 9 5

-- the ones of a latitude's minutes and the hundreds of a longitude
abbrev pub minutes_and_hundreds : ℕ → Letter
minutes_and_hundreds initial = if initial % 10 == 9 then UpTo 1 else Digits 9 1

-- after the hundreds of a longitude, its tens and ones: at most 180 degrees
abbrev pub longitude_ones : ℕ → Letter
longitude_ones hundreds = if hundreds % 10 == 1 then UpTo 80 else UpTo 99

-- the minutes of a longitude: none at 180 degrees
abbrev pub longitude_minutes : ℕ → ℕ → Letter
longitude_minutes hundreds ones = if (hundreds % 10 == 1) && (ones == 80) then Exactly 0 else UpTo 59

-- the place whose ten digits are in these five characters
abbrev pub fix_of : ℕ → ℕ → ℕ → ℕ → ℕ → Fix
fix_of a b c d e =
    record { quadrant = a / 10; lat_deg = a % 10 * 10 + b / 10; lat_min = b % 10 * 10 + c / 10; lon_deg = c % 10 * 100 + d; lon_min = e }

-- the rest of a position that is known, after its first character
abbrev pub KnownRest : ℕ → Option Fix → List ℕ → Type 0
KnownRest a =
    Then (Symbol (latitude_ones a)) (λ b. Then (Symbol (minutes_and_hundreds a)) (λ c. Then (Symbol (longitude_ones c)) (λ d.
    Then (Symbol (longitude_minutes c d)) (λ e. Only (Some (fix_of a b c d e))))))

-- the rest of a position that is not known
abbrev pub UnknownRest : Option Fix → List ℕ → Type 0
UnknownRest =
    Then (Symbol (Exactly UNKNOWN_POSITION)) (λ _. Then (Symbol (Exactly UNKNOWN_POSITION)) (λ _. Then (Symbol (Exactly UNKNOWN_POSITION)) (λ _.
    Then (Symbol (Exactly UNKNOWN_POSITION)) (λ _. Only None))))

-- after the tens of an area's latitude, its ones and the hundreds of a longitude: at most 90 degrees
abbrev pub area_latitude : ℕ → Letter
area_latitude initial = if initial % 10 == 9 then Digits 0 1 else Digits 9 1

-- the area whose ten digits are in these five characters
abbrev pub area_of : ℕ → ℕ → ℕ → ℕ → ℕ → Rectangle
area_of a b c d e = record { quadrant = a / 10; latitude = a % 10 * 10 + b / 10; longitude = b % 10 * 100 + c; south = d; east = e }

-- the second and third character of a field that begins so
abbrev pub field_letter : ℕ → Letter
field_letter initial = if initial == NO_INFORMATION then Exactly NO_INFORMATION else UpTo 99

-- the field of three characters
abbrev pub short_field : ℕ → ℕ → ℕ → FieldKind
short_field initial b c =
    if initial == NO_INFORMATION then Absent else (if initial == VHF_CHANNEL then Vhf (b * 100 + c) else
    (if initial / 10 == 3 then Hf (initial % 10 * 10000 + (b * 100 + c)) else Hundreds (initial * 10000 + (b * 100 + c))))

-- the field of four characters
abbrev pub long_field : ℕ → ℕ → ℕ → ℕ → FieldKind
long_field initial b c d = Tens (initial % 10 * 1000000 + (b * 10000 + (c * 100 + d)))

-- the rest of a field, after its first character
abbrev pub FieldRest : ℕ → FieldKind → List ℕ → Type 0
FieldRest initial =
    Then (Symbol (field_letter initial)) (λ b. Then (Symbol (field_letter initial)) (λ c.
    Choice (initial / 10 == 4) (Then (Symbol (UpTo 99)) (λ d. Only (long_field initial b c d))) (Only (short_field initial b c))))

-- so many characters of no information
abbrev pub Blanks : ℕ → Unit {0} → List ℕ → Type 0
Blanks zero = Only tt
Blanks (suc n) = Then (Symbol (Exactly NO_INFORMATION)) (λ _. Blanks n)
