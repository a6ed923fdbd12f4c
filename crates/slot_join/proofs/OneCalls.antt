-- A board on which one call's facts alone may be posted.
use Rattle.std.proofs.Common.{◌≡◌, ℕ, ◌+◌, ◌<◌, true, List, [], ◌∷◌, ◌++◌, length, slice_index, arith, ◌∙◌, length-append}
use Rattle.ten_unit.specs.declared.character.Element.{Element}
use Rattle.call_values.specs.declared.calls.Call.{Call}
use Rattle.call_grammar.specs.Spelling.{through_check, end_of, spell}
use Rattle.slot_evidence.specs.declared.places.Seen.{Seen}
use Rattle.slot_evidence.specs.Facts.{facts_of}
use Rattle.slot_evidence.specs.Sheet.{IsEnds, seen_at, facts_in}
use Rattle.slot_evidence.specs.Allowed.{OnlyAllowed}
use Rattle.slot_evidence.proofs.PublicLaws.{kept_shown, fact_small}
use Rattle.slot_join.specs.OneCall.{ShowsNoOther, AreOneCalls}
use Rattle.slot_join.proofs.OneWay.{in_call}

-- what may be posted shows no other symbols of the call
pub no_other : (facts : List (ℕ × ℕ)) (call : Call) (tail : List ℕ) (sheet : List Seen) → AreOneCalls facts call tail → OnlyAllowed facts sheet → ShowsNoOther (facts_in sheet) (through_check call)
no_other facts call tail sheet one only p v below kept =
    let may = (one p v).0 (only p v kept) in
    let long : length (spell call ++ tail) ≡ (length (through_check call) + 2) + length tail = omega (arith, length-append (spell call) tail, length-append (through_check call) (end_of call ∷ end_of call ∷ [])) in
    may.own (omega arith) ∙ in_call call tail p below

-- what is heard of the call may be posted
pub heard_may : (facts : List (ℕ × ℕ)) (call : Call) (tail : List ℕ) (e : List Element) (sheet : List Seen) → AreOneCalls facts call tail
    → ((p v : ℕ) → p + 2 < length (spell call ++ tail) → facts_of e p v ≡ true → v ≡ slice_index (spell call ++ tail) p) → IsEnds (facts_of e) sheet → OnlyAllowed facts sheet
heard_may facts call tail e sheet one own ends p v kept =
    let shown = kept_shown (facts_of e p) (seen_at sheet p) v (ends.each p) kept in
    let fits = fact_small e p v shown in
    (one p v).1 record { place = fits.0; symbol = fits.1; own = λ below. own p v below shown }
