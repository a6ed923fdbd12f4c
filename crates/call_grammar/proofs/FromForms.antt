-- A call's list is spelled by the grammar.
use Rattle.std.proofs.Common.{◌≡◌, ℕ, List, [], ◌∷◌, ◌++◌, true, false, Some, None, refl, sym, ap, subst, append_assoc, arith}
use Rattle.symbol_reader.specs.inside.Languages.{Only, Then}
use Rattle.symbol_reader.proofs.Steps.{one_then, spelled_then}
use Rattle.call_values.specs.declared.calls.Casualty.{Casualty}
use Rattle.call_values.specs.declared.calls.Call.{Call}
use Rattle.call_values.specs.declared.calls.Call.TheVariants.{Alert, Ack, Relay, RelayAck, AllShips, AreaCall, GroupCall, Individual, Service}
use Rattle.call_values.specs.declared.choices.Category.{Category}
use Rattle.call_values.specs.declared.choices.End.{End}
use Rattle.call_values.specs.declared.choices.End.TheVariants.{Ask, Reply, Plain}
use Rattle.call_values.specs.declared.fields.FieldKind.{FieldKind}
use Rattle.call_values.specs.declared.parts.To.{To}
use Rattle.call_values.specs.declared.parts.To.TheVariants as to
use Rattle.call_values.specs.declared.parts.Message.TheVariants.{Fields}
use Rattle.call_values.specs.declared.parts.Kind.{Kind}
use Rattle.call_values.specs.declared.parts.Kind.TheVariants.{Test, AskPosition, Position}
use Rattle.call_values.specs.Identity.{IsMmsi}
use Rattle.call_values.specs.Parts.{IsTo, IsKind}
use Rattle.call_values.specs.Calls.{IsCasualty, IsCall, IsRequest}
use Rattle.dsc_symbols.specs.declared.formats.TheConstants.{ALL_SHIPS, AREA, GROUP, INDIVIDUAL}
use Rattle.dsc_symbols.specs.declared.ends.TheConstants.{ACKNOWLEDGE_BQ, ACKNOWLEDGE_RQ, EOS}
use Rattle.dsc_symbols.specs.declared.messages.TheConstants.{NO_INFORMATION, POSITION_FOLLOWS}
use Rattle.dsc_symbols.specs.declared.telecommands.TheConstants.{DISTRESS_ACKNOWLEDGEMENT, DISTRESS_RELAY, SHIP_POSITION}
use Rattle.dsc_symbols.specs.declared.categories.TheConstants as categories
use Rattle.call_grammar.specs.declared.symbols.Specifier.TheVariants as format
use Rattle.call_grammar.specs.declared.symbols.Telecommand.TheVariants as telecommand
use Rattle.call_grammar.specs.Spelling.{identity_symbols, casualty_symbols, position_symbols, time_symbols, area_symbols, category_symbol, field_symbols, end_symbol, format_to, address_symbols, blanks, kind_symbols, kind_end, covered}
use Rattle.call_grammar.specs.inside.Forms.{relay, request, IsDistressTelecommand, Distress, SenderAndRequest, SenderAndIndividual, AfterFormat, Formats}
use Rattle.call_grammar.proofs.CodedParts.{blanks_word}
use Rattle.call_grammar.proofs.FormLists.{distress-list, relay-list, letter-list, request-list, service-list}

abbrev CallWords : Call → List ℕ → Type 0
CallWords = Then Formats AfterFormat

only : {v : Call} → Only v v []
only = record { value = refl; list = refl }

IsDistressTelecommand-relay : (t : To) → IsDistressTelecommand t false
IsDistressTelecommand-relay t = grind arith

-- after each address
from_distress : (t : To) (v : Call) (w : List ℕ) → IsTo t → Distress t v w → CallWords v (format_to t ∷ (address_symbols t ++ (categories.DISTRESS ∷ w)))
from_distress to.All v w h p = spelled_then format.All _ tt (spelled_then None _ tt p)
from_distress (to.Area a) v w h p = spelled_then format.Area _ tt (spelled_then a _ h (spelled_then None _ tt p))
from_distress (to.Group m) v w h p = spelled_then format.Group _ tt (spelled_then m _ h (spelled_then None _ tt p))
from_distress (to.One m) v w h p = spelled_then format.One _ tt (spelled_then m _ h (spelled_then None _ tt p))

relay_words : (t : To) (from : ℕ) (k : Casualty) (e : End) → IsTo t → IsMmsi from → IsCasualty k
    → CallWords (relay t from k e) (format_to t ∷ (address_symbols t ++ (categories.DISTRESS ∷ (identity_symbols from ++ (DISTRESS_RELAY ∷ (casualty_symbols k ++ (end_symbol e ∷ [])))))))
relay_words t from k e h i j =
    from_distress t (relay t from k e) _ h (spelled_then from _ i (spelled_then false _ (IsDistressTelecommand-relay t) (spelled_then k _ j (spelled_then e _ tt only))))

request_words : (t : To) (g : Category) (from first second : ℕ) (f1 f2 : FieldKind) → IsMmsi from → IsRequest first second (Fields f1 f2)
    → SenderAndRequest t g (request t g from first second f1 f2)
    (identity_symbols from ++ (first ∷ second ∷ (field_symbols f1 ++ (field_symbols f2 ++ (EOS ∷ [])))))
request_words t g from first second f1 f2 i h = grind arith

-- a call to one station, after its sender
from_sender_and_individual : (m : ℕ) (g : Category) (from : ℕ) (v : Call) (w : List ℕ) → IsMmsi m → SenderAndIndividual m g v w
    → CallWords v (INDIVIDUAL ∷ (identity_symbols m ++ (category_symbol g ∷ w)))
from_sender_and_individual m g from v w h p = spelled_then format.One _ tt (spelled_then m _ h (spelled_then (Some g) _ tt p))

service_words : (m : ℕ) (g : Category) (from : ℕ) (k : Kind) → IsMmsi from → IsKind k
    → SenderAndIndividual m g (Service m g from k) (identity_symbols from ++ (kind_symbols k ++ (kind_end k ∷ [])))
service_words m g from (Test reply) i j =
    spelled_then from _ i (spelled_then telecommand.Test _ tt (one_then NO_INFORMATION refl (one_then NO_INFORMATION refl (record {
      chosen = tt;
      front = blanks 5;
      back = kind_end (Test reply) ∷ [];
      before = blanks_word 5;
      after = spelled_then reply _ tt only;
      list = refl;
    }))))
service_words m g from AskPosition i j =
    spelled_then from _ i (spelled_then telecommand.Position _ tt (one_then NO_INFORMATION refl (spelled_then false _ tt (record {
      chosen = tt;
      front = blanks 5;
      back = ACKNOWLEDGE_RQ ∷ [];
      before = blanks_word 5;
      after = one_then ACKNOWLEDGE_RQ refl only;
      list = refl;
    }))))
service_words m g from (Position p t) i j =
    subst (λ a. SenderAndIndividual m g (Service m g from (Position p t)) (identity_symbols from ++ (SHIP_POSITION ∷ NO_INFORMATION ∷ POSITION_FOLLOWS ∷ a)))
    (sym (append_assoc (position_symbols p) (time_symbols t) (ACKNOWLEDGE_BQ ∷ [])))
    (spelled_then from _ i (spelled_then telecommand.Position _ tt (one_then NO_INFORMATION refl (spelled_then true _ tt
    (spelled_then p _ j.0 (spelled_then t _ j.1 (one_then ACKNOWLEDGE_BQ refl only)))))))

words : (v : Call) (l m : List ℕ) → l ≡ m → CallWords v m → CallWords v l
words v l m e p = subst (CallWords v) (sym e) p

pub from_covered : (c : Call) → IsCall c → CallWords c (covered c)
from_covered (Alert k) h = spelled_then format.Alert _ tt (spelled_then k _ h (one_then EOS refl only))
from_covered (Ack from k) h =
    words _ _ _ (ap (λ a. ALL_SHIPS ∷ a) (distress-list from DISTRESS_ACKNOWLEDGEMENT k (EOS ∷ [])))
    (spelled_then format.All _ tt (spelled_then None _ tt (spelled_then from _ h.0 (spelled_then true _ tt (spelled_then k _ h.1 (one_then EOS refl only))))))
from_covered (Relay t from k true) h =
    words _ _ _ (ap (λ a. format_to t ∷ a) (relay-list (address_symbols t) from DISTRESS_RELAY k (ACKNOWLEDGE_RQ ∷ []))) (relay_words t from k Ask h.0 h.1 h.2)
from_covered (Relay t from k false) h =
    words _ _ _ (ap (λ a. format_to t ∷ a) (relay-list (address_symbols t) from DISTRESS_RELAY k (EOS ∷ []))) (relay_words t from k Plain h.0 h.1 h.2)
from_covered (RelayAck t from k) h =
    words _ _ _ (ap (λ a. format_to t ∷ a) (relay-list (address_symbols t) from DISTRESS_RELAY k (ACKNOWLEDGE_BQ ∷ []))) (relay_words t from k Reply h.0 h.1 h.2)
from_covered (AllShips g from s k f1 f2) h =
    words _ _ _ (ap (λ a. ALL_SHIPS ∷ a) (request-list [] g from s k f1 f2 (EOS ∷ [])))
    (spelled_then format.All _ tt (spelled_then (Some g) _ tt (request_words to.All g from s k f1 f2 h.0 h.1)))
from_covered (AreaCall area g from s k f1 f2) h =
    words _ _ _ (ap (λ a. AREA ∷ a) (request-list (area_symbols area) g from s k f1 f2 (EOS ∷ [])))
    (spelled_then format.Area _ tt (spelled_then area _ h.0 (spelled_then (Some g) _ tt (request_words (to.Area area) g from s k f1 f2 h.1 h.2))))
from_covered (GroupCall m g from s k f1 f2) h =
    words _ _ _ (ap (λ a. GROUP ∷ a) (request-list (identity_symbols m) g from s k f1 f2 (EOS ∷ [])))
    (spelled_then format.Group _ tt (spelled_then m _ h.0 (spelled_then (Some g) _ tt (request_words (to.Group m) g from s k f1 f2 h.1 h.2))))
from_covered (Individual m g from s k x e) h =
    words _ _ _ (ap (λ a. INDIVIDUAL ∷ a) (letter-list (identity_symbols m) g from s k x (end_symbol e ∷ [])))
    (from_sender_and_individual m g from _ _ h.0 (spelled_then from _ h.1 (spelled_then (telecommand.Request s) _ h.2.one (spelled_then k _ h.2.two (spelled_then x _ h.2.told
    (spelled_then e _ tt only))))))
from_covered (Service m g from k) h =
    words _ _ _ (ap (λ a. INDIVIDUAL ∷ a) (service-list (identity_symbols m) g from (kind_symbols k) (kind_end k ∷ [])))
    (from_sender_and_individual m g from _ _ h.0 (service_words m g from k h.1 h.2))
