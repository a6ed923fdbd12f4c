-- Every symbol of a call's list is below 128.
use Rattle.std.proofs.Common.{ℕ, zero, suc, ◌+◌, ◌*◌, ◌<◌, [], ◌∷◌, ◌++◌, Option, Some, None, arith}
use Rattle.symbol_reader.proofs.Characters.{AreCharacters, both, ten, of_six, of_eight, of_check}
use Rattle.call_values.specs.declared.positions.Fix.{Fix}
use Rattle.call_values.specs.declared.calls.Casualty.{Casualty}
use Rattle.call_values.specs.declared.calls.Call.{Call}
use Rattle.call_values.specs.declared.calls.Call.TheVariants.{Alert, Ack, Relay, RelayAck, AllShips, AreaCall, GroupCall, Individual, Service}
use Rattle.call_values.specs.declared.choices.Category.{Category}
use Rattle.call_values.specs.declared.fields.FieldKind.{FieldKind}
use Rattle.call_values.specs.declared.fields.FieldKind.TheVariants.{Absent, Hundreds, Hf, Vhf, Tens}
use Rattle.call_values.specs.declared.parts.To.{To}
use Rattle.call_values.specs.declared.parts.To.TheVariants as to
use Rattle.call_values.specs.declared.parts.Message.{Message}
use Rattle.call_values.specs.declared.parts.Message.TheVariants.{Fields, At}
use Rattle.call_values.specs.declared.parts.Kind.{Kind}
use Rattle.call_values.specs.declared.parts.Kind.TheVariants.{Test, AskPosition, Position}
use Rattle.call_values.specs.Areas.{Rectangle, IsArea}
use Rattle.call_values.specs.Fields.{IsField}
use Rattle.dsc_symbols.specs.Telecommands.{IsFirst, IsSecond}
use Rattle.call_values.specs.Parts.{IsTo, IsMessage, IsKind}
use Rattle.call_values.specs.Identity.{IsMmsi}
use Rattle.call_values.specs.Positions.{IsPosition}
use Rattle.call_values.specs.Clock.{IsHourMinute}
use Rattle.call_values.specs.Calls.{IsCasualty, IsRequest, IsCall}
use Rattle.dsc_symbols.specs.declared.telecommands.TheConstants.{DISTRESS_ACKNOWLEDGEMENT, DISTRESS_RELAY}
use Rattle.call_grammar.specs.Spelling.{position_digits, identity_symbols, position_symbols, time_symbols, casualty_symbols, area_digits, area_symbols, blanks, field_symbols, message_symbols, category_symbol, address_symbols, distress_symbols, request_symbols, kind_symbols, format_of, end_of, fields_of, covered, check_of, spell}

of_position : (p : Option Fix) → IsPosition p → AreCharacters (position_symbols p)
unfolding position_digits
of_position None lawful = (omega arith, (omega arith, (omega arith, (omega arith, (omega arith, tt)))))
of_position (Some f) lawful = ten (position_digits f) (omega (arith, lawful.quadrant, lawful.latitude, lawful.longitude))

of_time : (t : Option (ℕ × ℕ)) → IsHourMinute t → AreCharacters (time_symbols t)
of_time t lawful = grind arith

of_casualty : (c : Casualty) → IsCasualty c → AreCharacters (casualty_symbols c)
of_casualty c lawful =
    both (identity_symbols c.mmsi) _ (ten (10 * c.mmsi) (omega (arith, lawful.mmsi))) (
      grind (arith, lawful.nature),
      both (position_symbols c.position) _ (of_position c.position lawful.position)
          (both (time_symbols c.time) _ (of_time c.time lawful.time) (grind (arith, lawful.comm), tt)),
    )

of_area : (a : Rectangle) → IsArea a → AreCharacters (area_symbols a)
unfolding area_digits
of_area a lawful = ten (area_digits a) (omega (arith, lawful.quadrant, lawful.latitude, lawful.longitude, lawful.south, lawful.east))

of_field : (f : FieldKind) → IsField f → AreCharacters (field_symbols f)
of_field Absent lawful = (omega arith, (omega arith, (omega arith, tt)))
of_field (Hundreds n) lawful = of_six n (omega (arith, lawful))
of_field (Hf n) lawful = of_six (300000 + n) (omega (arith, lawful))
of_field (Vhf n) lawful = of_six (900000 + n) (omega (arith, lawful))
of_field (Tens n) lawful = of_eight (40000000 + n) (omega (arith, lawful))

of_message : (m : Message) → IsMessage m → AreCharacters (message_symbols m)
of_message (Fields f1 f2) lawful = both (field_symbols f1) (field_symbols f2) (of_field f1 lawful.0) (of_field f2 lawful.1)
of_message (At p) lawful = (omega arith, of_position p lawful)

of_category : (g : Category) → category_symbol g < 128
of_category g = grind arith

of_identity : (n : ℕ) → IsMmsi n → AreCharacters (identity_symbols n)
of_identity n lawful = ten (10 * n) (omega (arith, lawful))

of_address : (t : To) → IsTo t → AreCharacters (address_symbols t)
of_address to.All lawful = tt
of_address (to.Area a) lawful = of_area a lawful
of_address (to.Group m) lawful = of_identity m lawful
of_address (to.One m) lawful = of_identity m lawful

of_distress : (from telecommand : ℕ) (k : Casualty) → IsMmsi from → telecommand < 128 → IsCasualty k → AreCharacters (distress_symbols from telecommand k)
of_distress from telecommand k mmsi small lawful =
    (omega arith, both (identity_symbols from) (telecommand ∷ casualty_symbols k) (of_identity from mmsi) (small, of_casualty k lawful))

of_first : (n : ℕ) → IsFirst n → n < 128
of_first n lawful = grind (arith, lawful)

of_second : (n : ℕ) → IsSecond n → n < 128
of_second n lawful = grind (arith, lawful)

of_request : (g : Category) (from first second : ℕ) (m : Message) → IsMmsi from → IsRequest first second m → AreCharacters (request_symbols g from first second m)
of_request g from first second m mmsi lawful = (
  of_category g,
  both (identity_symbols from) (first ∷ second ∷ message_symbols m) (of_identity from mmsi)
      (of_first first lawful.one, (of_second second lawful.two, of_message m lawful.told)),
)

of_blanks : (n : ℕ) → AreCharacters (blanks n)
of_blanks zero = tt
of_blanks (suc n) = (omega arith, of_blanks n)

of_kind : (k : Kind) → IsKind k → AreCharacters (kind_symbols k)
of_kind (Test reply) lawful = (omega arith, of_blanks 7)
of_kind AskPosition lawful = (omega arith, (omega arith, (omega arith, of_blanks 5)))
of_kind (Position p t) lawful =
    (omega arith, (omega arith, (omega arith, both (position_symbols p) (time_symbols t) (of_position p lawful.0) (of_time t lawful.1))))

of_fields : (c : Call) → IsCall c → AreCharacters (fields_of c)
of_fields (Alert casualty) lawful = of_casualty casualty lawful
of_fields (Ack from k) lawful = of_distress from DISTRESS_ACKNOWLEDGEMENT k lawful.0 (omega arith) lawful.1
of_fields (Relay t from k ask) lawful = both (address_symbols t) (distress_symbols from DISTRESS_RELAY k) (of_address t lawful.0) (of_distress from DISTRESS_RELAY k lawful.1 (omega arith) lawful.2)
of_fields (RelayAck t from k) lawful = both (address_symbols t) (distress_symbols from DISTRESS_RELAY k) (of_address t lawful.0) (of_distress from DISTRESS_RELAY k lawful.1 (omega arith) lawful.2)
of_fields (AllShips g from x y f1 f2) lawful = of_request g from x y (Fields f1 f2) lawful.0 lawful.1
of_fields (AreaCall a g from x y f1 f2) lawful = both (area_symbols a) (request_symbols g from x y (Fields f1 f2)) (of_area a lawful.0) (of_request g from x y (Fields f1 f2) lawful.1 lawful.2)
of_fields (GroupCall m g from x y f1 f2) lawful = both (identity_symbols m) (request_symbols g from x y (Fields f1 f2)) (of_identity m lawful.0) (of_request g from x y (Fields f1 f2) lawful.1 lawful.2)
of_fields (Individual m g from x y told e) lawful = both (identity_symbols m) (request_symbols g from x y told) (of_identity m lawful.0) (of_request g from x y told lawful.1 lawful.2)
of_fields (Service m g from k) lawful =
    both (identity_symbols m) (category_symbol g ∷ (identity_symbols from ++ kind_symbols k)) (of_identity m lawful.0)
    (of_category g, both (identity_symbols from) (kind_symbols k) (of_identity from lawful.1) (of_kind k lawful.2))

of_format : (c : Call) → format_of c < 128
of_format c = grind arith

of_end : (c : Call) → end_of c < 128
of_end c = grind arith

pub of_call : (c : Call) → IsCall c → AreCharacters (spell c)
of_call c lawful =
    let f = of_format c in
    let e = of_end c in
    let all : AreCharacters (covered c) = (f, both (fields_of c) (end_of c ∷ []) (of_fields c lawful) (e, tt)) in
    both (format_of c ∷ (covered c ++ (check_of (covered c) ∷ []))) (end_of c ∷ end_of c ∷ []) (f, both (covered c) (check_of (covered c) ∷ []) all (of_check (covered c) all, tt)) (e, (e, tt))
