-- The grammar of the forms, each symbol that parts two of them by itself: ITU-R M.493, composition of call sequences.
-- Which telecommands and ends each form may have is this project's profile.
use Rattle.std.specs.Prelude.{◌≡◌, ℕ, ◌∷◌, [], Bool, true, false, if◌then◌else◌, List, Option, Some, None}
use Rattle.dsc_symbols.specs.declared.formats.TheConstants as formats
use Rattle.dsc_symbols.specs.declared.categories.TheConstants as categories
use Rattle.dsc_symbols.specs.declared.telecommands.TheConstants as telecommands
use Rattle.dsc_symbols.specs.declared.ends.TheConstants as ends
use Rattle.dsc_symbols.specs.declared.messages.TheConstants.{NO_INFORMATION, POSITION_FOLLOWS}
use Rattle.symbol_reader.specs.declared.letters.Letter.{Letter}
use Rattle.symbol_reader.specs.declared.letters.Letter.TheVariants.{Exactly, Either}
use Rattle.symbol_reader.specs.inside.Languages.{Only, Then, Spelled}
use Rattle.call_values.specs.declared.calls.Casualty.{Casualty}
use Rattle.call_values.specs.declared.calls.Call.{Call}
use Rattle.call_values.specs.declared.calls.Call.TheVariants.{Alert, Ack, Relay, RelayAck, AllShips, AreaCall, GroupCall, Individual, Service}
use Rattle.call_values.specs.declared.choices.Category.{Category}
use Rattle.call_values.specs.declared.choices.End.{End}
use Rattle.call_values.specs.declared.choices.End.TheVariants.{Ask, Reply, Plain}
use Rattle.call_values.specs.declared.fields.FieldKind.{FieldKind}
use Rattle.call_values.specs.declared.parts.To.{To}
use Rattle.call_values.specs.declared.parts.To.TheVariants as to
use Rattle.call_values.specs.declared.parts.Message.TheVariants.{Fields}
use Rattle.call_values.specs.declared.parts.Kind.TheVariants.{Test, AskPosition, Position}
use Rattle.dsc_symbols.specs.Telecommands.{IsFirst}
use Rattle.call_grammar.specs.declared.symbols.Specifier.{Specifier}
use Rattle.call_grammar.specs.declared.symbols.Specifier.TheVariants as format
use Rattle.call_grammar.specs.declared.symbols.Telecommand.{Telecommand}
use Rattle.call_grammar.specs.declared.symbols.Telecommand.TheVariants as telecommand
use Rattle.call_grammar.specs.Spelling.{category_symbol, end_symbol}
use Rattle.call_grammar.specs.inside.Grammar.{Symbol, Identities, Positions, Times, Casualties, Areas, Firsts, Seconds, FieldWords, Messages, Blanks}

-- the symbol of each format specifier
abbrev pub format_symbol : Specifier → ℕ
format_symbol format.Alert = formats.DISTRESS
format_symbol format.All = formats.ALL_SHIPS
format_symbol format.Area = formats.AREA
format_symbol format.Group = formats.GROUP
format_symbol format.One = formats.INDIVIDUAL

-- the format specifiers, each by its symbol
abbrev pub Formats : Specifier → List ℕ → Type 0
Formats = Spelled (λ _. Unit {0}) (λ f. format_symbol f ∷ [])

-- the category of a call, or distress
abbrev pub category_or_distress : Option Category → ℕ
category_or_distress None = categories.DISTRESS
category_or_distress (Some category) = category_symbol category

-- the categories, or distress, each by its symbol
abbrev pub Categories : Option Category → List ℕ → Type 0
Categories = Spelled (λ _. Unit {0}) (λ category. category_or_distress category ∷ [])

-- an end of sequence
abbrev pub Endings : End → List ℕ → Type 0
Endings = Spelled (λ _. Unit {0}) (λ e. end_symbol e ∷ [])

-- one of two symbols
abbrev pub Eithers : ℕ → ℕ → Bool → List ℕ → Type 0
Eithers one other = Spelled (λ _. Unit {0}) (λ is_one. (if is_one then one else other) ∷ [])

-- the telecommand after the sender of a distress call: that of an acknowledgement, to all ships alone, or of a relay
abbrev pub distress_telecommand_letter : To → Letter
distress_telecommand_letter to.All = Either telecommands.DISTRESS_ACKNOWLEDGEMENT telecommands.DISTRESS_RELAY
distress_telecommand_letter (to.Area area) = Exactly telecommands.DISTRESS_RELAY
distress_telecommand_letter (to.Group mmsi) = Exactly telecommands.DISTRESS_RELAY
distress_telecommand_letter (to.One mmsi) = Exactly telecommands.DISTRESS_RELAY

-- an acknowledgement is to all ships alone; a relay may have each address
abbrev pub IsDistressTelecommand : To → Bool → Type 0
IsDistressTelecommand to.All is_ack = Unit {0}
IsDistressTelecommand (to.Area area) is_ack = is_ack ≡ false
IsDistressTelecommand (to.Group mmsi) is_ack = is_ack ≡ false
IsDistressTelecommand (to.One mmsi) is_ack = is_ack ≡ false

-- the telecommand of an acknowledgement, or of a relay
abbrev pub distress_telecommand_symbol : Bool → ℕ
distress_telecommand_symbol true = telecommands.DISTRESS_ACKNOWLEDGEMENT
distress_telecommand_symbol false = telecommands.DISTRESS_RELAY

-- the telecommands of distress calls, each by its symbol
abbrev pub DistressTelecommands : To → Bool → List ℕ → Type 0
DistressTelecommands to = Spelled (IsDistressTelecommand to) (λ is_ack. distress_telecommand_symbol is_ack ∷ [])

-- the first telecommand of a test, of a ship's position, or of another call to one station
abbrev pub telecommand_symbol : Telecommand → ℕ
telecommand_symbol telecommand.Test = telecommands.TEST
telecommand_symbol telecommand.Position = telecommands.SHIP_POSITION
telecommand_symbol (telecommand.Request first) = first

-- a first telecommand in its range
abbrev pub IsTelecommand : Telecommand → Type 0
IsTelecommand telecommand.Test = Unit {0}
IsTelecommand telecommand.Position = Unit {0}
IsTelecommand (telecommand.Request first) = IsFirst first

-- the first telecommands of a call to one station, each by its symbol
abbrev pub Telecommands : Telecommand → List ℕ → Type 0
Telecommands = Spelled IsTelecommand (λ o. telecommand_symbol o ∷ [])

-- a relay or its acknowledgement, by its end of sequence
abbrev pub relay : To → ℕ → Casualty → End → Call
relay to from casualty Ask = Relay to from casualty true
relay to from casualty Reply = RelayAck to from casualty
relay to from casualty Plain = Relay to from casualty false

-- a relay or its acknowledgement, after its telecommand
abbrev pub Relays : To → ℕ → Call → List ℕ → Type 0
Relays to from = Then Casualties (λ casualty. Then Endings (λ e. Only (relay to from casualty e)))

-- a distress acknowledgement, after its telecommand
abbrev pub Acks : ℕ → Call → List ℕ → Type 0
Acks from = Then Casualties (λ casualty. Then (Symbol (Exactly ends.EOS)) (λ _. Only (Ack from casualty)))

-- an acknowledgement or a relay
abbrev pub AfterDistressTelecommand : To → ℕ → Bool → Call → List ℕ → Type 0
AfterDistressTelecommand to from true = Acks from
AfterDistressTelecommand to from false = Relays to from

-- what follows the sender of a distress call that isn't an alert
abbrev pub AfterRelayer : To → ℕ → Call → List ℕ → Type 0
AfterRelayer to from = Then (DistressTelecommands to) (AfterDistressTelecommand to from)

-- what follows the category distress
abbrev pub Distress : To → Call → List ℕ → Type 0
Distress to = Then Identities (AfterRelayer to)

-- a call by its address; to one station, one that is not to be acknowledged
abbrev pub request : To → Category → ℕ → ℕ → ℕ → FieldKind → FieldKind → Call
request to.All category from first second f1 f2 = AllShips category from first second f1 f2
request (to.Area area) category from first second f1 f2 = AreaCall area category from first second f1 f2
request (to.Group mmsi) category from first second f1 f2 = GroupCall mmsi category from first second f1 f2
request (to.One mmsi) category from first second f1 f2 = Individual mmsi category from first second (Fields f1 f2) Plain

-- what follows the sender of a call to more than one station
abbrev pub Requests : To → Category → ℕ → Call → List ℕ → Type 0
Requests to category from =
    Then Firsts (λ first. Then Seconds (λ second. Then FieldWords (λ f1. Then FieldWords (λ f2. Then (Symbol (Exactly ends.EOS)) (λ _.
    Only (request to category from first second f1 f2))))))

-- a test, or the reply to one
abbrev pub Tests : ℕ → Category → ℕ → Call → List ℕ → Type 0
Tests mmsi category from =
    Then (Symbol (Exactly NO_INFORMATION)) (λ _. Then (Symbol (Exactly NO_INFORMATION)) (λ _. Then (Blanks 5) (λ _.
    Then (Eithers ends.ACKNOWLEDGE_BQ ends.ACKNOWLEDGE_RQ) (λ reply. Only (Service mmsi category from (Test reply))))))

-- a position that is given
abbrev pub PositionAnswers : ℕ → Category → ℕ → Call → List ℕ → Type 0
PositionAnswers mmsi category from =
    Then Positions (λ position. Then Times (λ time. Then (Symbol (Exactly ends.ACKNOWLEDGE_BQ)) (λ _. Only (Service mmsi category from (Position position time)))))

-- a position that is asked for
abbrev pub PositionRequests : ℕ → Category → ℕ → Call → List ℕ → Type 0
PositionRequests mmsi category from = Then (Blanks 5) (λ _. Then (Symbol (Exactly ends.ACKNOWLEDGE_RQ)) (λ _. Only (Service mmsi category from AskPosition)))

-- a position answer, or a position request
abbrev pub AfterTold : ℕ → Category → ℕ → Bool → Call → List ℕ → Type 0
AfterTold mmsi category from true = PositionAnswers mmsi category from
AfterTold mmsi category from false = PositionRequests mmsi category from

-- what follows the telecommand of a call about a ship's position
abbrev pub ShipPositions : ℕ → Category → ℕ → Call → List ℕ → Type 0
ShipPositions mmsi category from = Then (Symbol (Exactly NO_INFORMATION)) (λ _. Then (Eithers POSITION_FOLLOWS NO_INFORMATION) (AfterTold mmsi category from))

-- another call to one station
abbrev pub Others : ℕ → Category → ℕ → ℕ → Call → List ℕ → Type 0
Others mmsi category from first =
    Then Seconds (λ second. Then Messages (λ message. Then Endings (λ e. Only (Individual mmsi category from first second message e))))

-- what follows the first telecommand of a call to one station
abbrev pub AfterTelecommand : ℕ → Category → ℕ → Telecommand → Call → List ℕ → Type 0
AfterTelecommand mmsi category from telecommand.Test = Tests mmsi category from
AfterTelecommand mmsi category from telecommand.Position = ShipPositions mmsi category from
AfterTelecommand mmsi category from (telecommand.Request first) = Others mmsi category from first

-- what follows the sender of a call to one station
abbrev pub Individuals : ℕ → Category → ℕ → Call → List ℕ → Type 0
Individuals mmsi category from = Then Telecommands (AfterTelecommand mmsi category from)

-- what follows the category of a call that is for more than one station
abbrev pub SenderAndRequest : To → Category → Call → List ℕ → Type 0
SenderAndRequest to category = Then Identities (Requests to category)

-- what follows this category, or distress, in a call to more than one station
abbrev pub AfterCategory : To → Option Category → Call → List ℕ → Type 0
AfterCategory to None = Distress to
AfterCategory to (Some category) = SenderAndRequest to category

-- what follows the address of a call that is for more than one station
abbrev pub Addressed : To → Call → List ℕ → Type 0
Addressed to = Then Categories (AfterCategory to)

-- what follows the category of a call to one station
abbrev pub SenderAndIndividual : ℕ → Category → Call → List ℕ → Type 0
SenderAndIndividual mmsi category = Then Identities (Individuals mmsi category)

-- what follows this category, or distress, in a call to one station
abbrev pub AfterCategoryToOne : ℕ → Option Category → Call → List ℕ → Type 0
AfterCategoryToOne mmsi None = Distress (to.One mmsi)
AfterCategoryToOne mmsi (Some category) = SenderAndIndividual mmsi category

-- what follows the address of a call to one station
abbrev pub AddressedOne : ℕ → Call → List ℕ → Type 0
AddressedOne mmsi = Then Categories (AfterCategoryToOne mmsi)

-- an alert's casualty and its end of sequence
abbrev pub Alerts : Call → List ℕ → Type 0
Alerts = Then Casualties (λ casualty. Then (Symbol (Exactly ends.EOS)) (λ _. Only (Alert casualty)))

-- what follows the format specifier
abbrev pub AfterFormat : Specifier → Call → List ℕ → Type 0
AfterFormat format.Alert = Alerts
AfterFormat format.All = Addressed to.All
AfterFormat format.Area = Then Areas (λ area. Addressed (to.Area area))
AfterFormat format.Group = Then Identities (λ mmsi. Addressed (to.Group mmsi))
AfterFormat format.One = Then Identities AddressedOne
