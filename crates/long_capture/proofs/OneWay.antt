-- the facts at a start whose reception went wrong in one sense alone
use Rattle.std.proofs.Common.{◌≡◌, ℕ, ◌+◌, ◌*◌, ◌<◌, ◌≤◌, true, ◌&&◌, ◌||◌, nat_le, nat_lt, List, [], ◌∷◌, ◌++◌, length, get_or, Option, Some, None, inl, inr, refl, arith, sym, ◌∙◌, length-append}
use Rattle.std.proofs.lemmas.Bool.{ltb-true, and_parts, or_cases}
use Rattle.std.proofs.lemmas.List.{get_or_append_left}
use Rattle.std.proofs.lemmas.List.Elements.{All-get_or}
use Rattle.ten_unit.specs.declared.character.Element.{Element}
use Rattle.time_diversity.specs.Slots.{dx_slot, rx_slot}
use Rattle.phasing.specs.Slot.{shows}
use Rattle.call_values.specs.declared.calls.Call.{Call}
use Rattle.call_values.specs.Calls.{IsCall}
use Rattle.call_grammar.specs.Spelling.{spell, through_check, end_of}
use Rattle.slot_evidence.specs.Facts.{facts_at}
use Rattle.slot_join.specs.Heard.{IsOneWayAt}
use Rattle.slot_join.specs.OneCall.{ShowsNoOther}
use Rattle.slot_join.proofs.PublicLaws as heard
use Rattle.slot_join.proofs.PublicLaws.{slot_told, in_call}
use Rattle.long_capture.specs.Starts.{before, next_start, facts_from}
use Rattle.long_capture.proofs.InTime.{in_time}
use Rattle.long_capture.proofs.Near as near

-- the laws of the crates below that this one rests on
pub record Laws : Type 0 where
  pub near : near.Laws
  pub heard : heard.Laws

-- before the next start a slot shows nothing else than in the stream
slot_before : Laws → (e : List Element) (next : Option ℕ) (lead s v : ℕ) → shows (before e next) lead s v ≡ true → shows e lead s v ≡ true
slot_before laws e None lead s v has = has
slot_before laws e (Some next) lead s v has = (and_parts (nat_le (lead + 10 * s + 10) next) (shows e lead s v) (sym (in_time laws.near e lead s v next) ∙ has)).1

-- what a place shows before the next start is the list's, where both copies are sent
place_told : Laws → (e : List Element) (next : Option ℕ) (list : List ℕ) (lead p v : ℕ) → IsOneWayAt e list lead → p + 2 < length list → get_or list p 0 < 128 → facts_at (before e next) (Some lead) p v ≡ true → v ≡ get_or list p 0
place_told laws e next list lead p v heard below small has =
    let cut = before e next in
    let a = and_parts (nat_lt p 64) (nat_lt v 128 && (shows cut lead (dx_slot p) v || shows cut lead (rx_slot p) v)) has in
    let b = and_parts (nat_lt v 128) (shows cut lead (dx_slot p) v || shows cut lead (rx_slot p) v) a.1 in
    let bv : v < 128 = ltb-true v 128 b.0 in
    elim (or_cases (shows cut lead (dx_slot p) v) (shows cut lead (rx_slot p) v) b.1) [
      | inl here ↦ slot_told laws.heard e list lead (dx_slot p) p v heard (omega arith) (inl refl) small bv (slot_before laws e next lead (dx_slot p) v here)
      | inr here ↦ slot_told laws.heard e list lead (rx_slot p) p v heard (omega arith) (inr refl) small bv (slot_before laws e next lead (rx_slot p) v here)
    ]

-- at a start whose reception is of a call's list, the facts show no other symbols up to the check
pub start_shows : Laws → (c : Call) (tail : List ℕ) (e : List Element) (lead : ℕ) → IsCall c → IsOneWayAt e (spell c ++ tail) lead → ShowsNoOther (facts_from e lead) (through_check c)
unfolding facts_from
start_shows laws c tail e lead lawful heard p v below has =
    let ends = end_of c ∷ end_of c ∷ [] in
    let long : length (through_check c) + 2 ≤ length (spell c ++ tail) = omega (arith, length-append (spell c) tail, length-append (through_check c) ends) in
    let character : get_or (spell c) p 0 < 128 = All-get_or (λ v. v < 128) (spell c) p 0 (omega (arith, length-append (through_check c) ends)) (laws.heard.characters c lawful) in
    let same = in_call c tail p below in
    let in_list : get_or (spell c) p 0 ≡ get_or (through_check c) p 0 = get_or_append_left (through_check c) ends 0 p below in
    place_told laws e (next_start e lead) (spell c ++ tail) lead p v heard (omega (arith, long)) (omega (arith, same, in_list, character)) has ∙ same
