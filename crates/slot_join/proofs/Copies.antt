-- What copies of a call's characters that came intact show, and the answers to receptions of one call.
use Rattle.std.proofs.Common.{◌≡◌, ℕ, zero, suc, ◌+◌, ◌<◌, ◌≤◌, Bool, true, false, ◌&&◌, ◌||◌, ltb, List, [], ◌∷◌, ◌++◌, length, get_or, Option, Some, sym, ap, subst, ◌∙◌, inl, inr, ◌⊎◌, arith, length-append, All}
use Rattle.std.specs.List.{list_any}
use Rattle.std.proofs.lemmas.Bool.{or_left, or_right, or_cases, and_from, lt-ltb}
use Rattle.std.proofs.lemmas.List.{get_or_append_left, get_or_default}
use Rattle.std.proofs.lemmas.List.Elements.{All-get_or}
use Rattle.ten_unit.specs.declared.character.Element.{Element}
use Rattle.time_diversity.specs.Slots.{dx_slot, rx_slot}
use Rattle.phasing.specs.Slot.{shows}
use Rattle.call_values.specs.declared.calls.Call.{Call}
use Rattle.call_values.specs.Calls.{IsCall}
use Rattle.call_grammar.specs.Spelling.{spell, through_check, end_of}
use Rattle.slot_evidence.specs.Facts.{facts_of, facts_at, facts_of_all}
use Rattle.slot_evidence.specs.Seen.{ShowsNone}
use Rattle.slot_join.specs.declared.joined.Joined.{Joined}
use Rattle.slot_join.specs.declared.joined.Extra.{Extra}
use Rattle.slot_join.specs.Extra.{Follows}
use Rattle.slot_join.specs.Shown.{late_of}
use Rattle.slot_join.specs.Heard.{IsHeard}
use Rattle.slot_join.specs.OneCall.{ShowsNoOther, IsEndPlace, ShowsNoOtherEnd, IsCallOrMissing}
use Rattle.slot_join.specs.Intact.{EndsWithin, IsIntactAt, CameNowhere, CameSomewhere, TellsTail, IsSentOrLostPlace}
use Rattle.slot_join.proofs.OneWay.{in_call}

abbrev pub HeardLaw : Type 0
HeardLaw = (call : Call) (tail : List ℕ) (reception : List Element) → IsCall call → IsHeard reception (spell call ++ tail) → ShowsNoOther (facts_of reception) (through_check call)

-- lists of calls are short, and their symbols are characters
pub record Lists : Type 0 where
  pub short : (c : Call) → IsCall c → (4 ≤ length (spell c)) × (length (spell c) ≤ 32)
  pub characters : (c : Call) → IsCall c → All (λ v. v < 128) (spell c)

-- receptions that are heard show no other symbols together
any_told : HeardLaw → (receptions : List (List Element)) (call : Call) (tail : List ℕ) (p v : ℕ) → IsCall call → All (λ reception. IsHeard reception (spell call ++ tail)) receptions
    → p < length (through_check call) → list_any (λ e. facts_of e p v) receptions ≡ true → v ≡ get_or (through_check call) p 0
any_told law [] call tail p v lawful heard below has = absurd (cc)
any_told law (e ∷ receptions) call tail p v lawful heard below has =
    elim (or_cases (facts_of e p v) (list_any (λ x. facts_of x p v) receptions) has) [
      | inl here ↦ law call tail e lawful (heard 0 e (omega arith)) p v below here
      | inr there ↦ any_told law receptions call tail p v lawful (λ k d inside. heard (suc k) d (omega (arith, inside))) below there
    ]

-- receptions that are heard show no other symbols than the call's
pub all_told : HeardLaw → (receptions : List (List Element)) (call : Call) (tail : List ℕ) → IsCall call → All (λ reception. IsHeard reception (spell call ++ tail)) receptions
    → ShowsNoOther (facts_of_all receptions) (through_check call)
unfolding facts_of_all
all_told law receptions call tail lawful heard p v below has = any_told law receptions call tail p v lawful heard below has

-- what one of several shows, they show together
pub any_shows : (f : List Element → Bool) (receptions : List (List Element)) (k : ℕ) (e : List Element) → k < length receptions → get_or receptions k e ≡ e → f e ≡ true
    → list_any f receptions ≡ true
any_shows f [] k e below is has = absurd (omega arith)
any_shows f (x ∷ receptions) zero e below is has = or_left (f x) (list_any f receptions) (ap f is ∙ has)
any_shows f (x ∷ receptions) (suc k) e below is has = or_right (f x) (list_any f receptions) (any_shows f receptions k e (omega arith) is has)

-- a copy that came intact shows the character
in_slots : (inside small dx rx : Bool) → inside ≡ true → small ≡ true → (dx ≡ true) ⊎ (rx ≡ true) → (inside && (small && (dx || rx))) ≡ true
in_slots inside small dx rx a b (inl c) = and_from inside (small && (dx || rx)) a (and_from small (dx || rx) b (or_left dx rx c))
in_slots inside small dx rx a b (inr c) = and_from inside (small && (dx || rx)) a (and_from small (dx || rx) b (or_right dx rx c))

pub copy_shows : (e : List Element) (list : List ℕ) (lead p : ℕ) → p < 64 → get_or list p 0 < 128 → IsIntactAt e list lead p → facts_of e p (get_or list p 0) ≡ true
unfolding facts_of
copy_shows e list lead p inside small intact =
    let v : ℕ = get_or list p 0 in
    let either : (shows e lead (dx_slot p) v ≡ true) ⊎ (shows e lead (rx_slot p) v ≡ true) = elim intact.copy [ inl dx ↦ inl dx | inr rx ↦ inr rx.1 ] in
    let here : facts_at e (Some lead) p v ≡ true =
    in_slots (ltb p 64) (ltb v 128) (shows e lead (dx_slot p) v) (shows e lead (rx_slot p) v) (lt-ltb p 64 inside) (lt-ltb v 128 small) either in
    subst (λ (o : Option ℕ). facts_at e o p v ≡ true) (sym intact.origin) here

-- the characters of a call's places up to its check, and where they are
character : Lists → (c : Call) (tail : List ℕ) (p : ℕ) → IsCall c → p < length (through_check c) → get_or (spell c ++ tail) p 0 < 128
character lists c tail p lawful below =
    let ends : List ℕ = end_of c ∷ end_of c ∷ [] in
    let inside : p < length (spell c) = omega (arith, length-append (through_check c) ends) in
    let small : get_or (spell c) p 0 < 128 = All-get_or (λ v. v < 128) (spell c) p 0 inside (lists.characters c lawful) in
    omega (arith, get_or_append_left (spell c) tail 0 p inside, small)

within : Lists → (c : Call) (p : ℕ) → IsCall c → p < length (through_check c) → p < 64
within lists c p lawful below =
    let ends : List ℕ = end_of c ∷ end_of c ∷ [] in
    omega (arith, length-append (through_check c) ends, (lists.short c lawful).1)

-- a place that came intact somewhere is shown
pub somewhere_told : (receptions : List (List Element)) (list : List ℕ) (p : ℕ) → p < 64 → get_or list p 0 < 128
    → CameSomewhere receptions list p → facts_of_all receptions p (get_or list p 0) ≡ true
unfolding facts_of_all
somewhere_told receptions list p inside small came =
    let v : ℕ = get_or list p 0 in
    let shown : facts_of came.1 p v ≡ true = copy_shows came.1 list came.4.0 p inside small came.4.1 in
    any_shows (λ e. facts_of e p v) receptions came.0 came.1 came.2 came.3 shown

pub somewhere_shown : Lists → (receptions : List (List Element)) (c : Call) (tail : List ℕ) (p : ℕ) → IsCall c → p < length (through_check c)
    → CameSomewhere receptions (spell c ++ tail) p → facts_of_all receptions p (get_or (through_check c) p 0) ≡ true
somewhere_shown lists receptions c tail p lawful below came =
    subst (λ (u : ℕ). facts_of_all receptions p u ≡ true) (in_call c tail p below)
    (somewhere_told receptions (spell c ++ tail) p (within lists c p lawful below) (character lists c tail p lawful below) came)

-- a place that no reception showed came intact nowhere
blank_nowhere : Lists → (receptions : List (List Element)) (c : Call) (tail : List ℕ) (p : ℕ) → IsCall c → p < length (through_check c)
    → ShowsNone (facts_of_all receptions p) → CameNowhere receptions (spell c ++ tail) p
blank_nowhere lists receptions c tail p lawful below none k d inside = λ lead intact.
    let e : List Element = get_or receptions k d in
    let same : get_or receptions k e ≡ e = sym (get_or_default receptions k d e inside) in
    let yes : facts_of_all receptions p (get_or (through_check c) p 0) ≡ true = somewhere_shown lists receptions c tail p lawful below (k, e, inside, same, (lead, intact)) in
    let no : facts_of_all receptions p (get_or (through_check c) p 0) ≡ false = none (get_or (through_check c) p 0) in
    cc

-- where the facts of receptions that end with the transmission showed nothing of the second and the third end of
-- sequence, unless another symbol than the call's, no copy of these came intact
abbrev pub LateAreLost : List (List Element) → Call → List ℕ → Type 0
LateAreLost receptions c tail = (n : ℕ) → IsEndPlace c n → All (λ reception. EndsWithin reception (spell c ++ tail)) receptions
    → (ShowsNoOtherEnd (facts_of_all receptions) c n → ShowsNone (late_of (facts_of_all receptions) n))
    → CameNowhere receptions (spell c ++ tail) (n + 2) × CameNowhere receptions (spell c ++ tail) (n + 3)

-- the call that was sent, or a place of it no copy of which came intact
pub sent_or_lost : Lists → (receptions : List (List Element)) (c : Call) (tail : List ℕ) (answer : Joined) → IsCall c
    → ((extra : Extra) → Follows (facts_of_all receptions) c extra → TellsTail receptions c tail extra)
    → LateAreLost receptions c tail → IsCallOrMissing (facts_of_all receptions) c answer → IsSentOrLostPlace receptions c tail answer
sent_or_lost lists receptions c tail answer lawful tells ends (inl is) = inl (record { extra = is.extra; tells = tells is.extra is.follows; answer_is = is.answer_is })
sent_or_lost lists receptions c tail answer lawful tells ends (inr missing) = inr (record {
  place = missing.place;
  inside = missing.inside;
  blank = missing.blank;
  nowhere = blank_nowhere lists receptions c tail missing.place lawful missing.inside missing.blank;
  late = λ place within. ends missing.place place within (missing.late place);
  answer_is = missing.answer_is;
})
