-- What the grammar spells is a call's list.
use Rattle.std.proofs.Common.{◌≡◌, ℕ, List, [], ◌∷◌, ◌++◌, if◌then◌else◌, Bool, true, false, Option, Some, None, refl, sym, ◌∙◌, ap, subst, append_assoc, arith}
use Rattle.symbol_reader.specs.inside.Languages.{Then}
use Rattle.symbol_reader.proofs.Steps.{joined, spelt}
use Rattle.call_values.specs.declared.calls.Casualty.{Casualty}
use Rattle.call_values.specs.declared.calls.Call.{Call}
use Rattle.call_values.specs.declared.calls.Call.TheVariants.{Ack, Individual, Service}
use Rattle.call_values.specs.declared.choices.Category.{Category}
use Rattle.call_values.specs.declared.choices.End.{End}
use Rattle.call_values.specs.declared.choices.End.TheVariants.{Ask, Reply, Plain}
use Rattle.call_values.specs.declared.fields.FieldKind.{FieldKind}
use Rattle.call_values.specs.declared.parts.To.{To}
use Rattle.call_values.specs.declared.parts.To.TheVariants as to
use Rattle.call_values.specs.declared.parts.Kind.{Kind}
use Rattle.call_values.specs.declared.parts.Kind.TheVariants.{Test, AskPosition, Position}
use Rattle.call_values.specs.Identity.{IsMmsi}
use Rattle.call_values.specs.Parts.{IsTo, IsKind}
use Rattle.call_values.specs.Calls.{IsCasualty}
use Rattle.dsc_symbols.specs.Telecommands.{IsFirst, IsSecond}
use Rattle.call_values.specs.Fields.{IsField}
use Rattle.dsc_symbols.specs.declared.formats.TheConstants.{ALL_SHIPS, AREA, GROUP, INDIVIDUAL}
use Rattle.dsc_symbols.specs.declared.ends.TheConstants.{ACKNOWLEDGE_BQ, ACKNOWLEDGE_RQ, EOS}
use Rattle.dsc_symbols.specs.declared.messages.TheConstants.{NO_INFORMATION, POSITION_FOLLOWS}
use Rattle.dsc_symbols.specs.declared.telecommands.TheConstants.{DISTRESS_ACKNOWLEDGEMENT, DISTRESS_RELAY, SHIP_POSITION, TEST}
use Rattle.dsc_symbols.specs.declared.formats.TheConstants as formats
use Rattle.dsc_symbols.specs.declared.categories.TheConstants as categories
use Rattle.call_grammar.specs.declared.symbols.Specifier.{Specifier}
use Rattle.call_grammar.specs.declared.symbols.Specifier.TheVariants as format
use Rattle.call_grammar.specs.declared.symbols.Telecommand.{Telecommand}
use Rattle.call_grammar.specs.declared.symbols.Telecommand.TheVariants as telecommand
use Rattle.call_grammar.specs.Spelling.{identity_symbols, casualty_symbols, position_symbols, time_symbols, area_symbols, category_symbol, field_symbols, message_symbols, end_symbol, format_to, address_symbols, blanks, kind_symbols, kind_end}
use Rattle.call_grammar.specs.inside.Grammar.{CheckedCharacters}
use Rattle.call_grammar.specs.inside.Forms.{format_symbol, category_or_distress, distress_telecommand_symbol, IsDistressTelecommand, telecommand_symbol, IsTelecommand, relay, request, Relays, Acks, AfterDistressTelecommand, Distress, Requests, Tests, PositionAnswers, PositionRequests, AfterTold, ShipPositions, Others, AfterTelecommand, SenderAndRequest, AfterCategory, Addressed, SenderAndIndividual, AfterCategoryToOne, AddressedOne, Alerts, AfterFormat, Formats}
use Rattle.call_grammar.proofs.CodedParts.{blanks_list}
use Rattle.call_grammar.proofs.FormLists.{distress-list, relay-list, letter-list, request-list, service-list}

-- a word spells the value that it is said to spell, after a list
moved : (before : List ℕ → List ℕ) (v u : Call) (w l : List ℕ) → v ≡ u → w ≡ l → CheckedCharacters u (before l) → CheckedCharacters v (before w)
moved before v u w l value list p = subst (λ x. CheckedCharacters x (before w)) (sym value) (subst (λ x. CheckedCharacters u (before x)) (sym list) p)

to_alert : (v : Call) (w : List ℕ) → Alerts v w → CheckedCharacters v (formats.DISTRESS ∷ w)
to_alert v w p = grind arith

to_ack : (from : ℕ) (v : Call) (w : List ℕ) → IsMmsi from → Acks from v w → CheckedCharacters v (ALL_SHIPS ∷ categories.DISTRESS ∷ (identity_symbols from ++ (DISTRESS_ACKNOWLEDGEMENT ∷ w)))
to_ack from v w h p =
    let q = p.after in
    let k : q.chosen ≡ EOS = q.before.allowed in
    let back : p.back ≡ EOS ∷ [] = joined q q.after.list ∙ ap (λ x. x ∷ []) k in
    moved (λ a. ALL_SHIPS ∷ categories.DISTRESS ∷ (identity_symbols from ++ (DISTRESS_ACKNOWLEDGEMENT ∷ a))) v (Ack from p.chosen) w (casualty_symbols p.chosen ++ (EOS ∷ [])) q.after.value (spelt p back)
    (record { is_lawful = (h, p.before.is_lawful); list = ap (λ a. ALL_SHIPS ∷ a) (sym (distress-list from DISTRESS_ACKNOWLEDGEMENT p.chosen (EOS ∷ []))) })

relay_checked : (t : To) (from : ℕ) (k : Casualty) (e : End) → IsTo t → IsMmsi from → IsCasualty k
    → CheckedCharacters (relay t from k e) (format_to t ∷ (address_symbols t ++ (categories.DISTRESS ∷ (identity_symbols from ++ (DISTRESS_RELAY ∷ (casualty_symbols k ++ (end_symbol e ∷ [])))))))
relay_checked t from k Ask h i j = record { is_lawful = (h, i, j); list = ap (λ a. format_to t ∷ a) (sym (relay-list (address_symbols t) from DISTRESS_RELAY k (ACKNOWLEDGE_RQ ∷ []))) }
relay_checked t from k Reply h i j = record { is_lawful = (h, i, j); list = ap (λ a. format_to t ∷ a) (sym (relay-list (address_symbols t) from DISTRESS_RELAY k (ACKNOWLEDGE_BQ ∷ []))) }
relay_checked t from k Plain h i j = record { is_lawful = (h, i, j); list = ap (λ a. format_to t ∷ a) (sym (relay-list (address_symbols t) from DISTRESS_RELAY k (EOS ∷ []))) }

to_relay : (t : To) (from : ℕ) (v : Call) (w : List ℕ) → IsTo t → IsMmsi from → Relays t from v w
    → CheckedCharacters v (format_to t ∷ (address_symbols t ++ (categories.DISTRESS ∷ (identity_symbols from ++ (DISTRESS_RELAY ∷ w)))))
to_relay t from v w h i p =
    let q = p.after in
    let back : p.back ≡ end_symbol q.chosen ∷ [] = spelt q q.after.list in
    moved (λ a. format_to t ∷ (address_symbols t ++ (categories.DISTRESS ∷ (identity_symbols from ++ (DISTRESS_RELAY ∷ a))))) v (relay t from p.chosen q.chosen) w
    (casualty_symbols p.chosen ++ (end_symbol q.chosen ∷ [])) q.after.value (spelt p back) (relay_checked t from p.chosen q.chosen h i p.before.is_lawful)

to_distress_telecommand : (t : To) (from : ℕ) (is_ack : Bool) (v : Call) (w : List ℕ) → IsTo t → IsMmsi from → IsDistressTelecommand t is_ack → AfterDistressTelecommand t from is_ack v w
    → CheckedCharacters v (format_to t ∷ (address_symbols t ++ (categories.DISTRESS ∷ (identity_symbols from ++ (distress_telecommand_symbol is_ack ∷ w)))))
to_distress_telecommand to.All from true v w h i s p = to_ack from v w i p
to_distress_telecommand (to.Area a) from true v w h i s p = let e : true ≡ false = s in absurd (cc)
to_distress_telecommand (to.Group m) from true v w h i s p = let e : true ≡ false = s in absurd (cc)
to_distress_telecommand (to.One m) from true v w h i s p = let e : true ≡ false = s in absurd (cc)
to_distress_telecommand t from false v w h i s p = to_relay t from v w h i p

to_distress : (t : To) (v : Call) (w : List ℕ) → IsTo t → Distress t v w → CheckedCharacters v (format_to t ∷ (address_symbols t ++ (categories.DISTRESS ∷ w)))
to_distress t v w h p =
    let q = p.after in
    let back : p.back ≡ distress_telecommand_symbol q.chosen ∷ q.back = spelt q refl in
    subst (λ a. CheckedCharacters v (format_to t ∷ (address_symbols t ++ (categories.DISTRESS ∷ a)))) (sym (spelt p back))
    (to_distress_telecommand t p.chosen q.chosen v q.back h p.before.is_lawful q.before.is_lawful q.after)

request_checked : (t : To) (g : Category) (from first second : ℕ) (f1 f2 : FieldKind) → IsTo t → IsMmsi from → IsFirst first → IsSecond second → IsField f1 → IsField f2
    → CheckedCharacters (request t g from first second f1 f2)
    (format_to t ∷ (address_symbols t ++ (category_symbol g ∷ (identity_symbols from ++ (first ∷ second ∷ (field_symbols f1 ++ (field_symbols f2 ++ (EOS ∷ []))))))))
request_checked to.All g from first second f1 f2 h i j k m n = record {
  is_lawful = (i, record { one = j; two = k; told = (m, n) });
  list = ap (λ a. ALL_SHIPS ∷ a) (sym (request-list [] g from first second f1 f2 (EOS ∷ [])));
}
request_checked (to.Area area) g from first second f1 f2 h i j k m n = record {
  is_lawful = (h, i, record { one = j; two = k; told = (m, n) });
  list = ap (λ a. AREA ∷ a) (sym (request-list (area_symbols area) g from first second f1 f2 (EOS ∷ [])));
}
request_checked (to.Group mmsi) g from first second f1 f2 h i j k m n = record {
  is_lawful = (h, i, record { one = j; two = k; told = (m, n) });
  list = ap (λ a. GROUP ∷ a) (sym (request-list (identity_symbols mmsi) g from first second f1 f2 (EOS ∷ [])));
}
request_checked (to.One mmsi) g from first second f1 f2 h i j k m n = record {
  is_lawful = (h, i, record { one = j; two = k; told = (m, n) });
  list = ap (λ a. INDIVIDUAL ∷ a) (sym (request-list (identity_symbols mmsi) g from first second f1 f2 (EOS ∷ [])));
}

to_request : (t : To) (g : Category) (from : ℕ) (v : Call) (w : List ℕ) → IsTo t → IsMmsi from → Requests t g from v w
    → CheckedCharacters v (format_to t ∷ (address_symbols t ++ (category_symbol g ∷ (identity_symbols from ++ w))))
to_request t g from v w h i p =
    let q = p.after in let r = q.after in let s = r.after in let u = s.after in
    let k : u.chosen ≡ EOS = u.before.allowed in
    let e5 : s.back ≡ EOS ∷ [] = joined u u.after.list ∙ ap (λ x. x ∷ []) k in
    let list : w ≡ p.chosen ∷ q.chosen ∷ (field_symbols r.chosen ++ (field_symbols s.chosen ++ (EOS ∷ []))) = spelt p (spelt q (spelt r (spelt s e5))) in
    moved (λ a. format_to t ∷ (address_symbols t ++ (category_symbol g ∷ (identity_symbols from ++ a)))) v
    (request t g from p.chosen q.chosen r.chosen s.chosen) w _ u.after.value list
    (request_checked t g from p.chosen q.chosen r.chosen s.chosen h i p.before.is_lawful q.before.is_lawful r.before.is_lawful s.before.is_lawful)

-- the list of a call to one station, after its sender
abbrev letter : ℕ → Category → ℕ → List ℕ → List ℕ
letter m g from w = INDIVIDUAL ∷ (identity_symbols m ++ (category_symbol g ∷ (identity_symbols from ++ w)))

service_checked : (m : ℕ) (g : Category) (from : ℕ) (k : Kind) → IsMmsi m → IsMmsi from → IsKind k
    → CheckedCharacters (Service m g from k) (letter m g from (kind_symbols k ++ (kind_end k ∷ [])))
service_checked m g from k h i j = record {
  is_lawful = (h, i, j);
  list = ap (λ a. INDIVIDUAL ∷ a) (sym (service-list (identity_symbols m) g from (kind_symbols k) (kind_end k ∷ [])));
}

to_test : (m : ℕ) (g : Category) (from : ℕ) (v : Call) (w : List ℕ) → IsMmsi m → IsMmsi from → Tests m g from v w → CheckedCharacters v (letter m g from (TEST ∷ w))
to_test m g from v w h i p =
    let q = p.after in let r = q.after in let s = r.after in
    let k1 : p.chosen ≡ NO_INFORMATION = p.before.allowed in
    let k2 : q.chosen ≡ NO_INFORMATION = q.before.allowed in
    let e4 : r.back ≡ (if s.chosen then ACKNOWLEDGE_BQ else ACKNOWLEDGE_RQ) ∷ [] = spelt s s.after.list in
    let e3 : q.back ≡ blanks 5 ++ ((if s.chosen then ACKNOWLEDGE_BQ else ACKNOWLEDGE_RQ) ∷ []) =
    r.list ∙ ap (λ a. a ++ r.back) (blanks_list 5 r.chosen r.front r.before) ∙ ap (λ a. blanks 5 ++ a) e4 in
    let list : w ≡ NO_INFORMATION ∷ NO_INFORMATION ∷ (blanks 5 ++ ((if s.chosen then ACKNOWLEDGE_BQ else ACKNOWLEDGE_RQ) ∷ [])) =
    joined p (joined q e3) ∙ ap (λ a. a ∷ q.chosen ∷ (blanks 5 ++ ((if s.chosen then ACKNOWLEDGE_BQ else ACKNOWLEDGE_RQ) ∷ []))) k1
    ∙ ap (λ a. NO_INFORMATION ∷ a ∷ (blanks 5 ++ ((if s.chosen then ACKNOWLEDGE_BQ else ACKNOWLEDGE_RQ) ∷ []))) k2 in
    moved (λ a. letter m g from (TEST ∷ a)) v (Service m g from (Test s.chosen)) w _ s.after.value list (service_checked m g from (Test s.chosen) h i tt)

to_answer : (m : ℕ) (g : Category) (from : ℕ) (v : Call) (w : List ℕ) → IsMmsi m → IsMmsi from → PositionAnswers m g from v w
    → CheckedCharacters v (letter m g from (SHIP_POSITION ∷ NO_INFORMATION ∷ POSITION_FOLLOWS ∷ w))
to_answer m g from v w h i p =
    let q = p.after in let r = q.after in
    let k : r.chosen ≡ ACKNOWLEDGE_BQ = r.before.allowed in
    let e3 : q.back ≡ ACKNOWLEDGE_BQ ∷ [] = joined r r.after.list ∙ ap (λ x. x ∷ []) k in
    let list : w ≡ (position_symbols p.chosen ++ time_symbols q.chosen) ++ (ACKNOWLEDGE_BQ ∷ []) =
    spelt p (spelt q e3) ∙ sym (append_assoc (position_symbols p.chosen) (time_symbols q.chosen) (ACKNOWLEDGE_BQ ∷ [])) in
    moved (λ a. letter m g from (SHIP_POSITION ∷ NO_INFORMATION ∷ POSITION_FOLLOWS ∷ a)) v (Service m g from (Position p.chosen q.chosen)) w _ r.after.value list
    (service_checked m g from (Position p.chosen q.chosen) h i (p.before.is_lawful, q.before.is_lawful))

to_question : (m : ℕ) (g : Category) (from : ℕ) (v : Call) (w : List ℕ) → IsMmsi m → IsMmsi from → PositionRequests m g from v w
    → CheckedCharacters v (letter m g from (SHIP_POSITION ∷ NO_INFORMATION ∷ NO_INFORMATION ∷ w))
to_question m g from v w h i p =
    let q = p.after in
    let k : q.chosen ≡ ACKNOWLEDGE_RQ = q.before.allowed in
    let e2 : p.back ≡ ACKNOWLEDGE_RQ ∷ [] = joined q q.after.list ∙ ap (λ x. x ∷ []) k in
    let list : w ≡ blanks 5 ++ (ACKNOWLEDGE_RQ ∷ []) = p.list ∙ ap (λ a. a ++ p.back) (blanks_list 5 p.chosen p.front p.before) ∙ ap (λ a. blanks 5 ++ a) e2 in
    moved (λ a. letter m g from (SHIP_POSITION ∷ NO_INFORMATION ∷ NO_INFORMATION ∷ a)) v (Service m g from AskPosition) w _ q.after.value list (service_checked m g from AskPosition h i tt)

to_told : (m : ℕ) (g : Category) (from : ℕ) (is_told : Bool) (v : Call) (w : List ℕ) → IsMmsi m → IsMmsi from → AfterTold m g from is_told v w
    → CheckedCharacters v (letter m g from (SHIP_POSITION ∷ NO_INFORMATION ∷ (if is_told then POSITION_FOLLOWS else NO_INFORMATION) ∷ w))
to_told m g from true v w h i p = to_answer m g from v w h i p
to_told m g from false v w h i p = to_question m g from v w h i p

to_place : (m : ℕ) (g : Category) (from : ℕ) (v : Call) (w : List ℕ) → IsMmsi m → IsMmsi from → ShipPositions m g from v w → CheckedCharacters v (letter m g from (SHIP_POSITION ∷ w))
to_place m g from v w h i p =
    let q = p.after in
    let k : p.chosen ≡ NO_INFORMATION = p.before.allowed in
    let back : p.back ≡ (if q.chosen then POSITION_FOLLOWS else NO_INFORMATION) ∷ q.back = spelt q refl in
    let list : w ≡ NO_INFORMATION ∷ (if q.chosen then POSITION_FOLLOWS else NO_INFORMATION) ∷ q.back = joined p back ∙ ap (λ a. a ∷ (if q.chosen then POSITION_FOLLOWS else NO_INFORMATION) ∷ q.back) k in
    subst (λ a. CheckedCharacters v (letter m g from (SHIP_POSITION ∷ a))) (sym list) (to_told m g from q.chosen v q.back h i q.after)

to_other : (m : ℕ) (g : Category) (from first : ℕ) (v : Call) (w : List ℕ) → IsMmsi m → IsMmsi from → IsFirst first → Others m g from first v w
    → CheckedCharacters v (letter m g from (first ∷ w))
to_other m g from first v w h i j p =
    let q = p.after in let r = q.after in
    let list : w ≡ p.chosen ∷ (message_symbols q.chosen ++ (end_symbol r.chosen ∷ [])) = spelt p (spelt q (spelt r r.after.list)) in
    moved (λ a. letter m g from (first ∷ a)) v (Individual m g from first p.chosen q.chosen r.chosen) w _ r.after.value list (record {
      is_lawful = (h, i, record { one = j; two = p.before.is_lawful; told = q.before.is_lawful });
      list = ap (λ a. INDIVIDUAL ∷ a) (sym (letter-list (identity_symbols m) g from first p.chosen q.chosen (end_symbol r.chosen ∷ [])));
    })

to_telecommand : (m : ℕ) (g : Category) (from : ℕ) (o : Telecommand) (v : Call) (w : List ℕ) → IsMmsi m → IsMmsi from → IsTelecommand o → AfterTelecommand m g from o v w
    → CheckedCharacters v (letter m g from (telecommand_symbol o ∷ w))
to_telecommand m g from telecommand.Test v w h i j p = to_test m g from v w h i p
to_telecommand m g from telecommand.Position v w h i j p = to_place m g from v w h i p
to_telecommand m g from (telecommand.Request first) v w h i j p = to_other m g from first v w h i j p

to_sender_and_individual : (m : ℕ) (g : Category) (v : Call) (w : List ℕ) → IsMmsi m → SenderAndIndividual m g v w
    → CheckedCharacters v (INDIVIDUAL ∷ (identity_symbols m ++ (category_symbol g ∷ w)))
to_sender_and_individual m g v w h p =
    let q = p.after in
    let back : p.back ≡ telecommand_symbol q.chosen ∷ q.back = spelt q refl in
    subst (λ a. CheckedCharacters v (INDIVIDUAL ∷ (identity_symbols m ++ (category_symbol g ∷ a)))) (sym (spelt p back))
    (to_telecommand m g p.chosen q.chosen v q.back h p.before.is_lawful q.before.is_lawful q.after)

to_sender_and_request : (t : To) (g : Category) (v : Call) (w : List ℕ) → IsTo t → SenderAndRequest t g v w
    → CheckedCharacters v (format_to t ∷ (address_symbols t ++ (category_symbol g ∷ w)))
to_sender_and_request t g v w h p =
    subst (λ a. CheckedCharacters v (format_to t ∷ (address_symbols t ++ (category_symbol g ∷ a)))) (sym (spelt p refl))
    (to_request t g p.chosen v p.back h p.before.is_lawful p.after)

to_after_category : (t : To) (category : Option Category) (v : Call) (w : List ℕ) → IsTo t → AfterCategory t category v w
    → CheckedCharacters v (format_to t ∷ (address_symbols t ++ (category_or_distress category ∷ w)))
to_after_category t None v w h p = to_distress t v w h p
to_after_category t (Some g) v w h p = to_sender_and_request t g v w h p

to_addressed : (t : To) (v : Call) (w : List ℕ) → IsTo t → Addressed t v w → CheckedCharacters v (format_to t ∷ (address_symbols t ++ w))
to_addressed t v w h p =
    subst (λ a. CheckedCharacters v (format_to t ∷ (address_symbols t ++ a))) (sym (spelt p refl)) (to_after_category t p.chosen v p.back h p.after)

to_after_category_to_one : (m : ℕ) (category : Option Category) (v : Call) (w : List ℕ) → IsMmsi m → AfterCategoryToOne m category v w
    → CheckedCharacters v (INDIVIDUAL ∷ (identity_symbols m ++ (category_or_distress category ∷ w)))
to_after_category_to_one m None v w h p = to_distress (to.One m) v w h p
to_after_category_to_one m (Some g) v w h p = to_sender_and_individual m g v w h p

to_addressed_one : (m : ℕ) (v : Call) (w : List ℕ) → IsMmsi m → AddressedOne m v w → CheckedCharacters v (INDIVIDUAL ∷ (identity_symbols m ++ w))
to_addressed_one m v w h p =
    subst (λ a. CheckedCharacters v (INDIVIDUAL ∷ (identity_symbols m ++ a))) (sym (spelt p refl)) (to_after_category_to_one m p.chosen v p.back h p.after)

pub to_format : (f : Specifier) (v : Call) (w : List ℕ) → AfterFormat f v w → CheckedCharacters v (format_symbol f ∷ w)
to_format format.Alert v w p = to_alert v w p
to_format format.All v w p = to_addressed to.All v w tt p
to_format format.Area v w p =
    subst (λ a. CheckedCharacters v (AREA ∷ a)) (sym (spelt p refl)) (to_addressed (to.Area p.chosen) v p.back p.before.is_lawful p.after)
to_format format.Group v w p =
    subst (λ a. CheckedCharacters v (GROUP ∷ a)) (sym (spelt p refl)) (to_addressed (to.Group p.chosen) v p.back p.before.is_lawful p.after)
to_format format.One v w p =
    subst (λ a. CheckedCharacters v (INDIVIDUAL ∷ a)) (sym (spelt p refl)) (to_addressed_one p.chosen v p.back p.before.is_lawful p.after)

pub to_call : (v : Call) (w : List ℕ) → Then Formats AfterFormat v w → CheckedCharacters v w
to_call v w p = subst (CheckedCharacters v) (sym (spelt p refl)) (to_format p.chosen v p.back p.after)
