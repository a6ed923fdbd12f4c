-- calls and the parts of their texts
use Rattle.std.proofs.Common.{◌≡◌, ℕ, Bool, ◌⊎◌, inl, inr, Option, codes, arith}
use Rattle.line_grammar.specs.Grammar.{word, field, Parts, part}
use Rattle.call_values.specs.declared.positions.Fix.{Fix}
use Rattle.call_values.specs.declared.calls.Casualty.{Casualty}
use Rattle.call_values.specs.declared.calls.Call.{Call}
use Rattle.call_values.specs.declared.calls.Call.TheVariants.{Alert, Ack, Relay, RelayAck, AllShips, AreaCall, GroupCall, Individual, Service}
use Rattle.call_values.specs.declared.choices.Category.{Category}
use Rattle.call_values.specs.declared.choices.End.{End}
use Rattle.call_values.specs.declared.fields.FieldKind.{FieldKind}
use Rattle.call_values.specs.declared.parts.To.{To}
use Rattle.call_values.specs.declared.parts.Message.{Message}
use Rattle.call_values.specs.declared.parts.Message.TheVariants.{Fields, At}
use Rattle.call_values.specs.declared.parts.Kind.TheVariants.{Test, AskPosition, Position}
use Rattle.call_values.specs.Identity.{IsMmsi}
use Rattle.dsc_symbols.specs.Natures.{IsNature}
use Rattle.dsc_symbols.specs.Telecommands.{IsComm, IsFirst, IsSecond}
use Rattle.call_values.specs.Positions.{IsPosition}
use Rattle.call_values.specs.Clock.{IsHourMinute}
use Rattle.call_values.specs.Fields.{IsField}
use Rattle.call_values.specs.Parts.{IsTo}
use Rattle.call_values.specs.Areas.{Rectangle, IsArea}
use Rattle.call_grammar.specs.Spelling.{category_symbol, end_symbol}
use Rattle.line_grammar.specs.Shapes.{digits}
use Rattle.call_values.specs.Calls.{IsCasualty, IsCall}
use Rattle.dsc_symbols.specs.declared.sets.TheConstants.{ENDS, RELAY_ENDS, TEST_ENDS}
use Rattle.call_texts.specs.CallGrammar as grammar
use Rattle.call_texts.specs.CallParts.{position_text, time_text, area_text, frequency_text, address_text, relay_end, test_end}
use Rattle.call_texts.specs.inside.Places.{call_parts}
use Rattle.call_texts.proofs.SymbolTexts.{identity_told, nature_told, comm_told, first_told, second_told, category_told, end_told, relay_end_told, test_end_told}
use Rattle.call_texts.proofs.FieldTexts.{time_told, position_told, area_told, frequency_told, address_told}
use Rattle.line_grammar.proofs.Sections.{Section, fielded, worded, labelled, followed, LawfulSide, side_parts, sided, renamed}

-- the sections, their values and their parts
abbrev Casualties : Type 0
Casualties = ℕ × (Option Fix × (Option (ℕ × ℕ) × ℕ))

abbrev AreCasualties : Casualties → Type 0
AreCasualties w = IsNature w.0 × (IsPosition w.1.0 × (IsHourMinute w.1.1.0 × IsComm w.1.1.1))

abbrev casualties : Casualties → Parts → Parts
casualties w q = part (digits 3 w.0) (part (position_text w.1.0) (part (time_text w.1.1.0) (part (digits 3 w.1.1.1) q)))

casualty_section : Section {V = Casualties} grammar.casualty AreCasualties casualties
casualty_section =
    followed (labelled (codes " nature=") nature_told) (
    followed (labelled (codes " pos=") position_told) (followed (labelled (codes " time=") time_told) (labelled (codes " then=") comm_told)))

from_section : Section {V = ℕ} grammar.from IsMmsi (λ n q. part (digits 9 n) q)
from_section = labelled (codes " from=") identity_told

abbrev Distresses : Type 0
Distresses = ℕ × (ℕ × Casualties)

abbrev AreDistresses : Distresses → Type 0
AreDistresses w = IsMmsi w.0 × (IsMmsi w.1.0 × AreCasualties w.1.1)

abbrev distresses : Distresses → Parts → Parts
distresses w q = part (digits 9 w.0) (part (digits 9 w.1.0) (casualties w.1.1 q))

distress_section : Section {V = Distresses} grammar.distress AreDistresses distresses
distress_section = followed from_section (followed (labelled (codes " casualty=") identity_told) casualty_section)

abbrev Senders : Type 0
Senders = Category × ℕ

abbrev AreSenders : Senders → Type 0
AreSenders w = Unit {0} × IsMmsi w.1

abbrev senders : Senders → Parts → Parts
senders w q = part (digits 3 (category_symbol w.0)) (part (digits 9 w.1) q)

sender_section : Section {V = Senders} grammar.sender AreSenders senders
sender_section = followed (labelled (codes " cat=") category_told) from_section

abbrev Requests : Type 0
Requests = Senders × (ℕ × ℕ)

abbrev AreRequests : Requests → Type 0
AreRequests w = AreSenders w.0 × (IsFirst w.1.0 × IsSecond w.1.1)

abbrev requests : Requests → Parts → Parts
requests w q = senders w.0 (part (digits 3 w.1.0) (part (digits 3 w.1.1) q))

request_section : Section {V = Requests} grammar.request AreRequests requests
request_section = followed sender_section (followed (labelled (codes " first=") first_told) (labelled (codes " second=") second_told))

abbrev Frequencies : Type 0
Frequencies = FieldKind × FieldKind

abbrev AreFrequencies : Frequencies → Type 0
AreFrequencies w = IsField w.0 × IsField w.1

abbrev frequencies : Frequencies → Parts → Parts
frequencies w q = part (frequency_text w.0) (part (frequency_text w.1) q)

frequencies_section : Section {V = Frequencies} grammar.frequencies AreFrequencies frequencies
frequencies_section = followed (labelled (codes " f1=") frequency_told) (labelled (codes " f2=") frequency_told)

at_section : Section {V = Option Fix} (λ rest. word (codes " at=") (field grammar.position rest)) IsPosition (λ p q. part (position_text p) q)
at_section = labelled (codes " at=") position_told

abbrev Messages : Type 0
Messages = Frequencies ⊎ Option Fix

abbrev AreMessages : Messages → Type 0
AreMessages = LawfulSide AreFrequencies IsPosition

abbrev messages : Messages → Parts → Parts
messages = side_parts frequencies (λ (p : Option Fix) q. part (position_text p) q)

message_section : Section {V = Messages} grammar.message AreMessages messages
message_section = sided frequencies_section at_section

relay_end_section : Section {V = Bool} (λ rest. word (codes " end=") (field (grammar.symbol RELAY_ENDS) rest)) (λ (ask : Bool). Unit {0}) (λ ask q. part (digits 3 (relay_end ask)) q)
relay_end_section = labelled (codes " end=") relay_end_told

test_end_section : Section {V = Bool} (λ rest. word (codes " end=") (field (grammar.symbol TEST_ENDS) rest)) (λ (reply : Bool). Unit {0}) (λ reply q. part (digits 3 (test_end reply)) q)
test_end_section = labelled (codes " end=") test_end_told

end_section : Section {V = End} (λ rest. word (codes " end=") (field (grammar.symbol ENDS) rest)) (λ (x : End). Unit {0}) (λ x q. part (digits 3 (end_symbol x)) q)
end_section = labelled (codes " end=") end_told

address_section : Section {V = To} (λ rest. field grammar.address rest) IsTo (λ t q. part (address_text t) q)
address_section = fielded address_told

identity_section : Section {V = ℕ} (λ rest. field grammar.identity rest) IsMmsi (λ n q. part (digits 9 n) q)
identity_section = fielded identity_told

area_section : Section {V = Rectangle} (λ rest. field grammar.area rest) IsArea (λ a q. part (area_text a) q)
area_section = fielded area_told

-- the forms
abbrev Alerts : Type 0
Alerts = ℕ × Casualties

abbrev AreAlerts : Alerts → Type 0
AreAlerts w = IsMmsi w.0 × AreCasualties w.1

abbrev alerts : Alerts → Parts → Parts
alerts w q = part (digits 9 w.0) (casualties w.1 q)

alert_call : Section {V = Alerts} grammar.alert AreAlerts alerts
alert_call = worded (codes "alert") (followed from_section casualty_section)

abbrev Acks : Type 0
Acks = Distresses

abbrev AreAcks : Acks → Type 0
AreAcks w = AreDistresses w

abbrev acks : Acks → Parts → Parts
acks w q = distresses w q

ack_call : Section {V = Acks} grammar.ack AreAcks acks
ack_call = worded (codes "ack") distress_section

abbrev Relays : Type 0
Relays = To × (Distresses × Bool)

abbrev AreRelays : Relays → Type 0
AreRelays w = IsTo w.0 × (AreDistresses w.1.0 × Unit {0})

abbrev relays : Relays → Parts → Parts
relays w q = part (address_text w.0) (distresses w.1.0 (part (digits 3 (relay_end w.1.1)) q))

relay_call : Section {V = Relays} grammar.relay AreRelays relays
relay_call = worded (codes "relay to=") (followed address_section (followed distress_section relay_end_section))

abbrev RelayAcks : Type 0
RelayAcks = To × Distresses

abbrev AreRelayAcks : RelayAcks → Type 0
AreRelayAcks w = IsTo w.0 × AreDistresses w.1

abbrev relay_acks : RelayAcks → Parts → Parts
relay_acks w q = part (address_text w.0) (distresses w.1 q)

relay_ack_call : Section {V = RelayAcks} grammar.relay_ack AreRelayAcks relay_acks
relay_ack_call = worded (codes "relayack to=") (followed address_section distress_section)

abbrev ToAll : Type 0
ToAll = Requests × Frequencies

abbrev AreToAll : ToAll → Type 0
AreToAll w = AreRequests w.0 × AreFrequencies w.1

abbrev to_all : ToAll → Parts → Parts
to_all w q = requests w.0 (frequencies w.1 q)

all_ships_call : Section {V = ToAll} grammar.all_ships AreToAll to_all
all_ships_call = worded (codes "all") (followed request_section frequencies_section)

abbrev ToAreas : Type 0
ToAreas = Rectangle × (Requests × Frequencies)

abbrev AreToAreas : ToAreas → Type 0
AreToAreas w = IsArea w.0 × (AreRequests w.1.0 × AreFrequencies w.1.1)

abbrev to_areas : ToAreas → Parts → Parts
to_areas w q = part (area_text w.0) (requests w.1.0 (frequencies w.1.1 q))

area_call : Section {V = ToAreas} grammar.area_call AreToAreas to_areas
area_call = worded (codes "area to=") (followed area_section (followed request_section frequencies_section))

abbrev ToGroups : Type 0
ToGroups = ℕ × (Requests × Frequencies)

abbrev AreToGroups : ToGroups → Type 0
AreToGroups w = IsMmsi w.0 × (AreRequests w.1.0 × AreFrequencies w.1.1)

abbrev to_groups : ToGroups → Parts → Parts
to_groups w q = part (digits 9 w.0) (requests w.1.0 (frequencies w.1.1 q))

group_call : Section {V = ToGroups} grammar.group_call AreToGroups to_groups
group_call = worded (codes "group to=") (followed identity_section (followed request_section frequencies_section))

abbrev ToOne : Type 0
ToOne = ℕ × (Requests × (Messages × End))

abbrev AreToOne : ToOne → Type 0
AreToOne w = IsMmsi w.0 × (AreRequests w.1.0 × (AreMessages w.1.1.0 × Unit {0}))

abbrev to_one : ToOne → Parts → Parts
to_one w q = part (digits 9 w.0) (requests w.1.0 (messages w.1.1.0 (part (digits 3 (end_symbol w.1.1.1)) q)))

individual_call : Section {V = ToOne} grammar.individual AreToOne to_one
individual_call = worded (codes "one to=") (followed identity_section (followed request_section (followed message_section end_section)))

abbrev Tests : Type 0
Tests = ℕ × (Senders × Bool)

abbrev AreTests : Tests → Type 0
AreTests w = IsMmsi w.0 × (AreSenders w.1.0 × Unit {0})

abbrev tests : Tests → Parts → Parts
tests w q = part (digits 9 w.0) (senders w.1.0 (part (digits 3 (test_end w.1.1)) q))

test_call : Section {V = Tests} grammar.test AreTests tests
test_call = worded (codes "test to=") (followed identity_section (followed sender_section test_end_section))

abbrev Askings : Type 0
Askings = ℕ × Senders

abbrev AreAskings : Askings → Type 0
AreAskings w = IsMmsi w.0 × AreSenders w.1

abbrev askings : Askings → Parts → Parts
askings w q = part (digits 9 w.0) (senders w.1 q)

position_request_call : Section {V = Askings} grammar.position_request AreAskings askings
position_request_call = worded (codes "askpos to=") (followed identity_section sender_section)

abbrev Tellings : Type 0
Tellings = ℕ × (Senders × (Option Fix × Option (ℕ × ℕ)))

abbrev AreTellings : Tellings → Type 0
AreTellings w = IsMmsi w.0 × (AreSenders w.1.0 × (IsPosition w.1.1.0 × IsHourMinute w.1.1.1))

abbrev tellings : Tellings → Parts → Parts
tellings w q = part (digits 9 w.0) (senders w.1.0 (part (position_text w.1.1.0) (part (time_text w.1.1.1) q)))

position_answer_call : Section {V = Tellings} grammar.position_answer AreTellings tellings
position_answer_call =
    worded (codes "pos to=") (followed identity_section (followed sender_section (followed (labelled (codes " pos=") position_told) (labelled (codes " time=") time_told))))

-- the calls, one of the forms each
abbrev Calls : Type 0
Calls = Alerts ⊎ (Acks ⊎ (Relays ⊎ (RelayAcks ⊎ (ToAll ⊎ (ToAreas ⊎ (ToGroups ⊎ (ToOne ⊎ (Tests ⊎ (Askings ⊎ Tellings)))))))))

abbrev AreCalls : Calls → Type 0
AreCalls = LawfulSide AreAlerts (LawfulSide AreAcks (LawfulSide AreRelays (LawfulSide AreRelayAcks (LawfulSide AreToAll (LawfulSide AreToAreas (LawfulSide AreToGroups (LawfulSide AreToOne (LawfulSide AreTests (LawfulSide AreAskings AreTellings)))))))))

abbrev calls : Calls → Parts → Parts
calls = side_parts alerts (side_parts acks (side_parts relays (side_parts relay_acks (side_parts to_all (side_parts to_areas (side_parts to_groups (side_parts to_one (side_parts tests (side_parts askings tellings)))))))))

line_section : Section {V = Calls} grammar.calls AreCalls calls
line_section = sided alert_call (sided ack_call (sided relay_call (sided relay_ack_call (sided all_ships_call (sided area_call (sided group_call (sided individual_call (sided test_call (sided position_request_call position_answer_call)))))))))

abbrev message_told : Message → Messages
message_told (Fields f1 f2) = inl (f1, f2)
message_told (At position) = inr position

abbrev message_back : Messages → Message
message_back (inl f) = Fields f.0 f.1
message_back (inr position) = At position

abbrev told : Call → Calls
told (Alert casualty) = inl (casualty.mmsi, (casualty.nature, (casualty.position, (casualty.time, casualty.comm))))
told (Ack from casualty) = inr (inl (from, (casualty.mmsi, (casualty.nature, (casualty.position, (casualty.time, casualty.comm))))))
told (Relay to from casualty ask) = inr (inr (inl (to, ((from, (casualty.mmsi, (casualty.nature, (casualty.position, (casualty.time, casualty.comm))))), ask))))
told (RelayAck to from casualty) = inr (inr (inr (inl (to, (from, (casualty.mmsi, (casualty.nature, (casualty.position, (casualty.time, casualty.comm)))))))))
told (AllShips category from one two f1 f2) = inr (inr (inr (inr (inl (((category, from), (one, two)), (f1, f2))))))
told (AreaCall area category from one two f1 f2) = inr (inr (inr (inr (inr (inl (area, (((category, from), (one, two)), (f1, f2))))))))
told (GroupCall group category from one two f1 f2) = inr (inr (inr (inr (inr (inr (inl (group, (((category, from), (one, two)), (f1, f2)))))))))
told (Individual to category from one two message end) = inr (inr (inr (inr (inr (inr (inr (inl (to, (((category, from), (one, two)), (message_told message, end))))))))))
told (Service to category from (Test reply)) = inr (inr (inr (inr (inr (inr (inr (inr (inl (to, ((category, from), reply))))))))))
told (Service to category from AskPosition) = inr (inr (inr (inr (inr (inr (inr (inr (inr (inl (to, (category, from)))))))))))
told (Service to category from (Position position time)) = inr (inr (inr (inr (inr (inr (inr (inr (inr (inr ((to, ((category, from), (position, time)))))))))))))

abbrev casualty_of : ℕ → Casualties → Casualty
casualty_of mmsi w = record { mmsi = mmsi; nature = w.0; position = w.1.0; time = w.1.1.0; comm = w.1.1.1 }

abbrev back : Calls → Call
back (inl w) = Alert (casualty_of w.0 w.1)
back (inr (inl w)) = Ack w.0 (casualty_of w.1.0 w.1.1)
back (inr (inr (inl w))) = Relay w.0 w.1.0.0 (casualty_of w.1.0.1.0 w.1.0.1.1) w.1.1
back (inr (inr (inr (inl w)))) = RelayAck w.0 w.1.0 (casualty_of w.1.1.0 w.1.1.1)
back (inr (inr (inr (inr (inl w))))) = AllShips w.0.0.0 w.0.0.1 w.0.1.0 w.0.1.1 w.1.0 w.1.1
back (inr (inr (inr (inr (inr (inl w)))))) = AreaCall w.0 w.1.0.0.0 w.1.0.0.1 w.1.0.1.0 w.1.0.1.1 w.1.1.0 w.1.1.1
back (inr (inr (inr (inr (inr (inr (inl w))))))) = GroupCall w.0 w.1.0.0.0 w.1.0.0.1 w.1.0.1.0 w.1.0.1.1 w.1.1.0 w.1.1.1
back (inr (inr (inr (inr (inr (inr (inr (inl w)))))))) = Individual w.0 w.1.0.0.0 w.1.0.0.1 w.1.0.1.0 w.1.0.1.1 (message_back w.1.1.0) w.1.1.1
back (inr (inr (inr (inr (inr (inr (inr (inr (inl w))))))))) = Service w.0 w.1.0.0 w.1.0.1 (Test w.1.1)
back (inr (inr (inr (inr (inr (inr (inr (inr (inr (inl w)))))))))) = Service w.0 w.1.0 w.1.1 AskPosition
back (inr (inr (inr (inr (inr (inr (inr (inr (inr (inr (w))))))))))) = Service w.0 w.1.0.0 w.1.0.1 (Position w.1.1.0 w.1.1.1)

again : (c : Call) → back (told c) ≡ c
again c = grind arith

there : (c : Call) (q : Parts) → call_parts c q ≡ calls (told c) q
there c q = grind arith

here : (w : Calls) (q : Parts) → call_parts (back w) q ≡ calls w q
here w q = grind arith

abbrev casualty_is : (c : Casualty) → IsCasualty c → AreCasualties (c.nature, (c.position, (c.time, c.comm)))
casualty_is c h = (h.nature, (h.position, (h.time, h.comm)))

abbrev lawful_casualty : (mmsi : ℕ) (w : Casualties) → IsMmsi mmsi → AreCasualties w → IsCasualty (casualty_of mmsi w)
lawful_casualty mmsi w m h = record { mmsi = m; nature = h.0; position = h.1.0; time = h.1.1.0; comm = h.1.1.1 }

lawful : (c : Call) → IsCall c → AreCalls (told c)
lawful c h = grind arith

lawful_back : (w : Calls) → AreCalls w → IsCall (back w)
lawful_back w h = grind arith

-- a call, as a section
pub calls_section : Section {V = Call} grammar.calls IsCall call_parts
calls_section = renamed line_section told back lawful lawful_back (λ c h. again c) (λ c h. there c) (λ w h. here w)
