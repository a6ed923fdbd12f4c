-- The grammar of call texts, one row for each form: this project's profile over the forms of ITU-R M.493.
use Rattle.std.specs.Prelude.{ℕ, List, [], ◌∷◌, codes}
use Rattle.dsc_symbols.specs.declared.sets.TheConstants.{BELOW_DISTRESS, COMMS, ENDS, FIRSTS, NATURES, RELAY_ENDS, SECONDS, TEST_ENDS}
use Rattle.call_values.specs.declared.bounds.TheConstants.{IDENTITIES, SIX_DIGITS, EIGHT_DIGITS}
use Rattle.expansion.specs.declared.bounds.TheConstants.{LAST_ENHANCEMENT, LAST_SPEED, LAST_COURSE}
use Rattle.line_grammar.specs.Shapes.{Shape, letters, fixed_number, pair, choice}
use Rattle.line_grammar.specs.Tokens.{Token, shaped}
use Rattle.line_grammar.specs.Sections.{labelled}
use Rattle.line_grammar.specs.Grammar.{Grammar, word, either}

-- the nine digits of an identity
abbrev pub identity_shape : Shape
identity_shape = fixed_number 9 IDENTITIES

-- an identity in a line
abbrev pub identity : Token
identity = shaped identity_shape

-- a symbol in three digits
abbrev pub symbol : List (ℕ × ℕ) → Token
symbol ranges = shaped (fixed_number 3 ranges)

-- nature of distress
abbrev pub nature : Token
nature = symbol NATURES

-- category
abbrev pub category : Token
category = symbol BELOW_DISTRESS

-- first telecommand
abbrev pub first_command : Token
first_command = symbol FIRSTS

-- second telecommand
abbrev pub second_command : Token
second_command = symbol SECONDS

-- subsequent communications
abbrev pub comm : Token
comm = symbol COMMS

-- minutes of a degree or of an hour
abbrev pub minutes : Shape
minutes = fixed_number 2 ((0, 59) ∷ [])

-- degrees and minutes of latitude, at most 90 00
abbrev pub latitude : Shape
latitude = choice (pair (fixed_number 2 ((0, 89) ∷ [])) minutes) (letters (codes "9000"))

-- degrees and minutes of longitude, at most 180 00
abbrev pub longitude : Shape
longitude = choice (pair (fixed_number 3 ((0, 179) ∷ [])) minutes) (letters (codes "18000"))

-- a quadrant, a latitude and a longitude, or nines where they are not known
abbrev pub position : Token
position = shaped (choice (pair (fixed_number 1 ((0, 3) ∷ [])) (pair latitude longitude)) (letters (codes "9999999999")))

-- an hour and a minute, or eights where they are not known
abbrev pub time : Token
time = shaped (choice (pair (fixed_number 2 ((0, 23) ∷ [])) minutes) (letters (codes "8888")))

-- a quadrant, a latitude, a longitude, and the sides southwards and eastwards
abbrev pub area_shape : Shape
area_shape =
    pair (fixed_number 1 ((0, 3) ∷ [])) (
    pair (fixed_number 2 ((0, 90) ∷ [])) (
    pair (fixed_number 3 ((0, 180) ∷ [])) (
    pair (fixed_number 2 ((0, 99) ∷ [])) (fixed_number 2 ((0, 99) ∷ [])))))

-- an area in a line
abbrev pub area : Token
area = shaped area_shape

-- who a relay is addressed to
abbrev pub address : Token
address =
    shaped (choice (letters (codes "all")) (
    choice (pair (letters (codes "area:")) area_shape) (
    choice (pair (letters (codes "group:")) identity_shape) (pair (letters (codes "one:")) identity_shape))))

-- none, six digits of hundreds of hertz or of a channel after 3 or 90, or eight digits of tens of hertz after 4
abbrev pub frequency : Token
frequency =
    shaped (choice (letters (codes "none"))
    (choice (fixed_number 6 SIX_DIGITS) (fixed_number 8 EIGHT_DIGITS)))

-- the sender
abbrev pub from : Grammar → Grammar
from rest = labelled (codes " from=") identity rest

-- nature of distress, position, time and subsequent communications
abbrev pub casualty : Grammar → Grammar
casualty rest =
    labelled (codes " nature=") nature (
    labelled (codes " pos=") position (labelled (codes " time=") time (labelled (codes " then=") comm rest)))

-- the identity of a ship in distress, and its fields as a casualty
abbrev pub ship_in_distress : Grammar → Grammar
ship_in_distress rest = labelled (codes " casualty=") identity (casualty rest)

-- the sender, and a casualty that is another ship
abbrev pub distress : Grammar → Grammar
distress rest = from (ship_in_distress rest)

-- the category and the sender
abbrev pub sender : Grammar → Grammar
sender rest = labelled (codes " cat=") category (from rest)

-- the category, the sender and two telecommands
abbrev pub request : Grammar → Grammar
request rest = sender (labelled (codes " first=") first_command (labelled (codes " second=") second_command rest))

-- two frequencies or channels
abbrev pub frequencies : Grammar → Grammar
frequencies rest = labelled (codes " f1=") frequency (labelled (codes " f2=") frequency rest)

-- two frequencies or channels, or a position
abbrev pub message : Grammar → Grammar
message rest = either (frequencies rest) (labelled (codes " at=") position rest)

-- the ends of sequence of a relay
abbrev pub relay_ends : List (ℕ × ℕ)
relay_ends = RELAY_ENDS

-- the ends of sequence of a test
abbrev pub test_ends : List (ℕ × ℕ)
test_ends = TEST_ENDS

-- the ends of sequence of a call to one station
abbrev pub all_ends : List (ℕ × ℕ)
all_ends = ENDS

-- one of these ends of sequence
abbrev pub end : List (ℕ × ℕ) → Grammar → Grammar
end ends rest = labelled (codes " end=") (symbol ends) rest

-- a distress alert, whose sender is the casualty
abbrev pub alert : Grammar → Grammar
alert rest = word (codes "alert") (from (casualty rest))

-- a distress acknowledgement
abbrev pub ack : Grammar → Grammar
ack rest = word (codes "ack") (distress rest)

-- a distress relay
abbrev pub relay : Grammar → Grammar
relay rest = labelled (codes "relay to=") address (distress (end relay_ends rest))

-- a relay acknowledgement
abbrev pub relay_ack : Grammar → Grammar
relay_ack rest = labelled (codes "relayack to=") address (distress rest)

-- a call to all ships
abbrev pub all_ships : Grammar → Grammar
all_ships rest = word (codes "all") (request (frequencies rest))

-- a call to an area
abbrev pub area_call : Grammar → Grammar
area_call rest = labelled (codes "area to=") area (request (frequencies rest))

-- a call to a group
abbrev pub group_call : Grammar → Grammar
group_call rest = labelled (codes "group to=") identity (request (frequencies rest))

-- a call to one station
abbrev pub individual : Grammar → Grammar
individual rest = labelled (codes "one to=") identity (request (message (end all_ends rest)))

-- a test or its acknowledgement
abbrev pub test : Grammar → Grammar
test rest = labelled (codes "test to=") identity (sender (end test_ends rest))

-- a position is asked for
abbrev pub position_request : Grammar → Grammar
position_request rest = labelled (codes "askpos to=") identity (sender rest)

-- a position is given
abbrev pub position_answer : Grammar → Grammar
position_answer rest = labelled (codes "pos to=") identity (sender (labelled (codes " pos=") position (labelled (codes " time=") time rest)))

-- the texts of tests, position requests and position answers
abbrev pub services : Grammar → Grammar
services rest = either (test rest) (either (position_request rest) (position_answer rest))

-- the texts of the calls that aren't distress calls
abbrev pub other_calls : Grammar → Grammar
other_calls rest = either (all_ships rest) (either (area_call rest) (either (group_call rest) (either (individual rest) (services rest))))

-- the texts of all calls but alerts
abbrev pub all_but_alerts : Grammar → Grammar
all_but_alerts rest = either (ack rest) (either (relay rest) (either (relay_ack rest) (other_calls rest)))

-- the texts of all calls
abbrev pub calls : Grammar → Grammar
calls rest = either (alert rest) (all_but_alerts rest)

-- a set's value: none, or a number up to the most in so many digits
abbrev pub set_shape : ℕ → ℕ → Shape
set_shape width most = choice (letters (codes "none")) (fixed_number width ((0, most) ∷ []))

-- a set of an expansion in a line: so many digits, up to a bound, or none
abbrev pub set : ℕ → ℕ → Token
set width most = shaped (set_shape width most)

-- an enhanced position after its label
abbrev pub enhanced : Grammar → Grammar
enhanced rest = labelled (codes " enh=") (set 8 LAST_ENHANCEMENT) rest

-- a speed after its label
abbrev pub speed : Grammar → Grammar
speed rest = labelled (codes " speed=") (set 4 LAST_SPEED) rest

-- a course after its label
abbrev pub course : Grammar → Grammar
course rest = labelled (codes " course=") (set 4 LAST_COURSE) rest

-- what may be there or be left out
abbrev pub perhaps : (Grammar → Grammar) → Grammar → Grammar
perhaps section rest = either rest (section rest)

-- one or more of the sets, in this order
abbrev pub sets : Grammar → Grammar
sets rest = either (enhanced (perhaps speed (perhaps course rest))) (either (speed (perhaps course rest)) (course rest))

-- an expansion
abbrev pub expansion : Grammar → Grammar
expansion rest = word (codes " exp") (sets rest)
