-- what a truly phased reception with one-way errors shows is what was sent
use Rattle.std.proofs.Common.{◌≡◌, ℕ, ◌+◌, ◌*◌, ◌<◌, ◌≤◌, true, ◌&&◌, ◌||◌, ltb, nat_le, List, ◌∷◌, [], ◌++◌, length, get_or, Option, Some, None, refl, sym, ap, subst, ◌∙◌, inl, inr, arith, length-append, append_assoc, All}
use Rattle.std.specs.Prelude.{◌↔◌}
use Rattle.std.proofs.lemmas.Bool.{ltb-true, and_parts, and_right, or_cases, lt-leb, cond-false}
use Rattle.std.proofs.lemmas.List.{get_or_append_left}
use Rattle.std.proofs.lemmas.List.Elements.{All-get_or}
use Rattle.ten_unit.specs.declared.character.Element.{Element}
use Rattle.ten_unit.specs.Word.{word_of, is_word}
use Rattle.ten_unit.specs.Errors.{IsOneWay}
use Rattle.ten_unit.proofs.PublicLaws.{length-word}
use Rattle.time_diversity.specs.Slots.{dx_slot, rx_slot, IsSlotOf}
use Rattle.time_diversity.specs.OnAir.{sent_symbol, on_air}
use Rattle.time_diversity.proofs.PublicLaws.{length-on_air, sent_at}
use Rattle.phasing.specs.Slot.{slot, shows}
use Rattle.call_values.specs.declared.calls.Call.{Call}
use Rattle.call_values.specs.Calls.{IsCall}
use Rattle.call_grammar.specs.Spelling.{spell, through_check, end_of}
use Rattle.slot_evidence.specs.Facts.{facts_of, facts_at}
use Rattle.slot_join.specs.Heard.{IsOneWayAt, IsTrulyPhased, IsHeard}
use Rattle.slot_join.specs.OneCall.{ShowsNoOther}

-- the laws of the crates below that this one rests on
pub record Laws : Type 0 where
  pub equal : (w : List Element) (v : ℕ) → (is_word w v ≡ true) ↔ (w ≡ word_of v)
  pub one_way : (received : List Element) (u v : ℕ) → u < 128 → v < 128 → IsOneWay (word_of v) received → is_word received u ≡ true → u ≡ v
  pub slots : (list : List ℕ) (s p : ℕ) → IsSlotOf s p → sent_symbol list s ≡ get_or list p 0
  pub characters : (c : Call) → IsCall c → All (λ v. v < 128) (spell c)

-- a slot shows what was sent in it or nothing
pub slot_told : Laws → (e : List Element) (list : List ℕ) (lead s p v : ℕ) → IsOneWayAt e list lead → s < 2 * length list + 12 → IsSlotOf s p → get_or list p 0 < 128 → v < 128 → shows e lead s v ≡ true → v ≡ get_or list p 0
unfolding shows
slot_told laws e list lead s p v heard below is small bv has =
    let word = (laws.equal (slot e lead s) v).0 has in
    let sent : get_or (on_air list) s 0 ≡ get_or list p 0 = sent_at list s below ∙ laws.slots list s p is in
    let one_way = heard s (omega (arith, length-on_air list)) (ap length word ∙ length-word v) in
    laws.one_way (slot e lead s) v (get_or list p 0) bv small (subst (λ (x : ℕ). IsOneWay (word_of x) (slot e lead s)) sent one_way) has

at_lead : Laws → (e : List Element) (list : List ℕ) (lead p v : ℕ) → IsOneWayAt e list lead → p + 2 < length list → get_or list p 0 < 128 → facts_at e (Some lead) p v ≡ true → v ≡ get_or list p 0
at_lead laws e list lead p v heard below small has =
    let a = and_parts (ltb p 64) (ltb v 128 && (shows e lead (dx_slot p) v || shows e lead (rx_slot p) v)) has in
    let b = and_parts (ltb v 128) (shows e lead (dx_slot p) v || shows e lead (rx_slot p) v) a.1 in
    let bv : v < 128 = ltb-true v 128 b.0 in
    elim (or_cases (shows e lead (dx_slot p) v) (shows e lead (rx_slot p) v) b.1) [
      | inl here ↦ slot_told laws e list lead (dx_slot p) p v heard (omega arith) (inl refl) small bv here
      | inr here ↦ slot_told laws e list lead (rx_slot p) p v heard (omega arith) (inr refl) small bv here
    ]

told : Laws → (e : List Element) (list : List ℕ) (p v : ℕ) → IsHeard e list → p + 2 < length list → get_or list p 0 < 128 → facts_of e p v ≡ true → v ≡ get_or list p 0
unfolding facts_of
told laws e list p v (inl none) below small has =
    let never : facts_at e None p v ≡ true = subst (λ (lead : Option ℕ). facts_at e lead p v ≡ true) none has in
    absurd (cc)
told laws e list p v (inr found) below small has =
    at_lead laws e list found.0 p v found.2 below small (subst (λ (lead : Option ℕ). facts_at e lead p v ≡ true) found.1 has)

-- at a lead past the reception's end no slot is inside
pub past_the_end : (e : List Element) (list : List ℕ) → IsOneWayAt e list (length e + 150)
past_the_end e list s below ten =
    let none : slot e (length e + 150) s ≡ [] =
    cond-false _ _ _ (and_right (nat_le 150 (length e + 150 + 10 * s)) _ (lt-leb _ _ (omega arith))) in
    absurd (omega (arith, sym ten ∙ ap length none))

pub heard_at : (e : List Element) (list : List ℕ) (lead : ℕ) → IsOneWayAt e list lead → IsTrulyPhased e lead → IsHeard e list
heard_at e list lead one_way (inl found) = inr (lead, found, one_way)
heard_at e list lead one_way (inr none) = inl none

-- the places of a call up to its check are those of what was sent
pub in_call : (c : Call) (tail : List ℕ) (p : ℕ) → p < length (through_check c) → get_or (spell c ++ tail) p 0 ≡ get_or (through_check c) p 0
in_call c tail p below =
    let ends = end_of c ∷ end_of c ∷ [] in
    ap (λ (l : List ℕ). get_or l p 0) (append_assoc (through_check c) ends tail) ∙ get_or_append_left (through_check c) (ends ++ tail) 0 p below

-- what is heard of a list's transmission is the list's, at the places of which both copies are sent
pub heard_list : Laws → (list : List ℕ) (e : List Element) (p v : ℕ) → All (λ symbol. symbol < 128) list → IsHeard e list → p + 2 < length list → facts_of e p v ≡ true → v ≡ get_or list p 0
heard_list laws list e p v characters heard below has =
    told laws e list p v heard below (All-get_or (λ symbol. symbol < 128) list p 0 (omega arith) characters) has

pub heard_call : Laws → (c : Call) (tail : List ℕ) (e : List Element) → IsCall c → IsHeard e (spell c ++ tail) → ShowsNoOther (facts_of e) (through_check c)
heard_call laws c tail e lawful heard p v below has =
    let ends = end_of c ∷ end_of c ∷ [] in
    let long : length (through_check c) + 2 ≤ length (spell c ++ tail) = omega (arith, length-append (spell c) tail, length-append (through_check c) ends) in
    let character : get_or (spell c) p 0 < 128 = All-get_or (λ v. v < 128) (spell c) p 0 (omega (arith, length-append (through_check c) ends)) (laws.characters c lawful) in
    let same = in_call c tail p below in
    let in_list : get_or (spell c) p 0 ≡ get_or (through_check c) p 0 = get_or_append_left (through_check c) ends 0 p below in
    told laws e (spell c ++ tail) p v heard (omega (arith, long)) (omega (arith, same, in_list, character)) has ∙ same
