-- What receptions that end with the transmission show of its last places, and of the later copies of the end of
-- sequence.
use Rattle.std.proofs.Common.{◌≡◌, ℕ, ◌+◌, ◌*◌, ◌<◌, ◌≤◌, true, false, ◌&&◌, ◌||◌, ltb, List, [], ◌∷◌, ◌++◌, length, get_or, Option, Some, None, refl, sym, ap, subst, ◌∙◌, inl, inr, ◌⊎◌, arith, length-append, All}
use Rattle.std.proofs.lemmas.Bool.{cases_lt, ltb-true, and_parts, or_cases, or_left, or_right, or_parts}
use Rattle.std.proofs.lemmas.List.{get_or_append_left, get_or-append-add, length_push}
use Rattle.std.proofs.lemmas.List.Elements.{All-get_or}
use Rattle.ten_unit.specs.declared.character.Element.{Element}
use Rattle.time_diversity.specs.Slots.{dx_slot, rx_slot}
use Rattle.time_diversity.specs.OnAir.{on_air}
use Rattle.time_diversity.proofs.PublicLaws.{length-on_air}
use Rattle.phasing.specs.Slot.{shows}
use Rattle.call_values.specs.declared.calls.Call.{Call}
use Rattle.call_values.specs.Calls.{IsCall}
use Rattle.call_grammar.specs.Spelling.{spell, through_check, up_to_end, covered, check_of, end_of}
use Rattle.slot_evidence.specs.Facts.{facts_of, facts_at, facts_of_all}
use Rattle.slot_evidence.specs.Seen.{ShowsNone}
use Rattle.slot_join.specs.Shown.{late_of}
use Rattle.slot_join.specs.Heard.{IsOneWayAt, IsHeard}
use Rattle.slot_join.specs.OneCall.{IsEndPlace, ShowsNoOtherEnd}
use Rattle.slot_join.specs.Intact.{EndsWithin, CameNowhere, CameSomewhere}
use Rattle.slot_join.proofs.OneWay.{Laws, slot_told}
use Rattle.slot_join.proofs.Copies.{Lists, LateAreLost, somewhere_told}
use Rattle.slot_join.proofs.Tails.{any_of, blank_list, shows_nothing}

-- a place's RX slot that the transmission hasn't lies past the reception's end
within_at : Laws → (e : List Element) (list : List ℕ) (lead p v : ℕ) → IsOneWayAt e list lead → length e + 150 ≤ lead + 10 * length (on_air list) → p < length list
    → get_or list p 0 < 128 → facts_at e (Some lead) p v ≡ true → v ≡ get_or list p 0
within_at laws e list lead p v heard ends below small has =
    let a = and_parts (ltb p 64) (ltb v 128 && (shows e lead (dx_slot p) v || shows e lead (rx_slot p) v)) has in
    let b = and_parts (ltb v 128) (shows e lead (dx_slot p) v || shows e lead (rx_slot p) v) a.1 in
    let bv : v < 128 = ltb-true v 128 b.0 in
    elim (or_cases (shows e lead (dx_slot p) v) (shows e lead (rx_slot p) v) b.1) [
      | inl here ↦ slot_told laws e list lead (dx_slot p) p v heard (omega arith) (inl refl) small bv here
      | inr here ↦ elim (cases_lt (p + 2) (length list)) [
        | inl both ↦ slot_told laws e list lead (rx_slot p) p v heard (omega arith) (inr refl) small bv here
        | inr le ↦
            let no : shows e lead (rx_slot p) v ≡ false = shows_nothing laws.equal e lead (rx_slot p) v (omega (arith, ends, length-on_air list)) in
            absurd (cc)
      ]
    ]

pub within_told : Laws → (list : List ℕ) (e : List Element) (p v : ℕ) → IsHeard e list → EndsWithin e list → p < length list → get_or list p 0 < 128
    → facts_of e p v ≡ true → v ≡ get_or list p 0
unfolding facts_of
within_told laws list e p v (inl none) within below small has =
    let never : facts_at e None p v ≡ true = subst (λ (lead : Option ℕ). facts_at e lead p v ≡ true) none has in
    absurd (cc)
within_told laws list e p v (inr found) within below small has =
    within_at laws e list found.0 p v found.2 (within found.0 found.1) below small (subst (λ (lead : Option ℕ). facts_at e lead p v ≡ true) found.1 has)

abbrev pub WithinLaw : Type 0
WithinLaw = (list : List ℕ) (e : List Element) (p v : ℕ) → IsHeard e list → EndsWithin e list → p < length list → get_or list p 0 < 128
    → facts_of e p v ≡ true → v ≡ get_or list p 0

module _ (law : WithinLaw) (lists : Lists) (receptions : List (List Element)) (c : Call) (tail : List ℕ) (lawful : IsCall c) (n : ℕ) (place : IsEndPlace c n) where
  -- the second and the third end of sequence are two and three places after the first
  long : length (spell c) ≡ n + 4
  long = omega (arith, place, length-append (through_check c) (end_of c ∷ end_of c ∷ []), length_push (up_to_end c) (check_of (covered c)))

  counts : length (through_check c) ≡ n + 2
  counts = omega (arith, place, length_push (up_to_end c) (check_of (covered c)))

  end_there : (k : ℕ) → k < 2 → get_or (end_of c ∷ end_of c ∷ []) k 0 ≡ end_of c → get_or (spell c ++ tail) (n + 2 + k) 0 ≡ end_of c
  end_there k two is =
      get_or_append_left (spell c) tail 0 (n + 2 + k) (omega (arith, long)) ∙ ap (λ (m : ℕ). get_or (spell c) (m + k) 0) (sym counts)
      ∙ get_or-append-add (through_check c) (end_of c ∷ end_of c ∷ []) k 0 ∙ is

  second : get_or (spell c ++ tail) (n + 2) 0 ≡ end_of c
  second = ap (λ (m : ℕ). get_or (spell c ++ tail) m 0) (omega arith) ∙ end_there 0 (omega arith) refl

  third : get_or (spell c ++ tail) (n + 3) 0 ≡ end_of c
  third = ap (λ (m : ℕ). get_or (spell c ++ tail) m 0) (omega arith) ∙ end_there 1 (omega arith) refl

  small : end_of c < 128
  small =
      let has : get_or (spell c) (n + 2) 0 < 128 = All-get_or (λ v. v < 128) (spell c) (n + 2) 0 (omega (arith, long)) (lists.characters c lawful) in
      omega (arith, has, get_or_append_left (spell c) tail 0 (n + 2) (omega (arith, long)), second)

  whole : length (spell c ++ tail) ≡ n + 4 + length tail
  whole = omega (arith, length-append (spell c) tail, long)

  module _ (heard : All (λ reception. IsHeard reception (spell c ++ tail)) receptions) (within : All (λ reception. EndsWithin reception (spell c ++ tail)) receptions) where
    told : (p v : ℕ) → p < n + 4 → get_or (spell c ++ tail) p 0 ≡ end_of c → facts_of_all receptions p v ≡ true → v ≡ end_of c
    unfolding facts_of_all
    told p v below is has =
        any_of (λ e. IsHeard e (spell c ++ tail) × EndsWithin e (spell c ++ tail)) p v (end_of c)
        (λ e both shown. law (spell c ++ tail) e p v both.0 both.1 (omega (arith, whole)) (omega (arith, is, small)) shown ∙ is)
        receptions (λ k d inside. (heard k d inside, within k d inside)) has

    pub as_sent : ShowsNoOtherEnd (facts_of_all receptions) c n
    as_sent v has = elim (or_cases (facts_of_all receptions (n + 2) v) (facts_of_all receptions (n + 3) v) has) [
      | inl here ↦ told (n + 2) v (omega arith) second here
      | inr here ↦ told (n + 3) v (omega arith) third here
    ]

  -- a copy of either that came intact is shown
  pub later_shown : CameSomewhere receptions (spell c ++ tail) (n + 2) ⊎ CameSomewhere receptions (spell c ++ tail) (n + 3) → late_of (facts_of_all receptions) n (end_of c) ≡ true
  later_shown (inl came) =
      or_left (facts_of_all receptions (n + 2) (end_of c)) (facts_of_all receptions (n + 3) (end_of c)) (subst (λ (v : ℕ). facts_of_all receptions (n + 2) v ≡ true) second
      (somewhere_told receptions (spell c ++ tail) (n + 2) (omega (arith, long, (lists.short c lawful).1)) (omega (arith, second, small)) came))
  later_shown (inr came) =
      or_right (facts_of_all receptions (n + 2) (end_of c)) (facts_of_all receptions (n + 3) (end_of c)) (subst (λ (v : ℕ). facts_of_all receptions (n + 3) v ≡ true) third
      (somewhere_told receptions (spell c ++ tail) (n + 3) (omega (arith, long, (lists.short c lawful).1)) (omega (arith, third, small)) came))

  late_nowhere : ShowsNone (late_of (facts_of_all receptions) n) → CameNowhere receptions (spell c ++ tail) (n + 2) × CameNowhere receptions (spell c ++ tail) (n + 3)
  late_nowhere none = (
    blank_list receptions (spell c ++ tail) (n + 2) (omega (arith, long, (lists.short c lawful).1)) (omega (arith, second, small))
        (λ v. (or_parts (facts_of_all receptions (n + 2) v) (facts_of_all receptions (n + 3) v) (none v)).0),
    blank_list receptions (spell c ++ tail) (n + 3) (omega (arith, long, (lists.short c lawful).1)) (omega (arith, third, small))
        (λ v. (or_parts (facts_of_all receptions (n + 2) v) (facts_of_all receptions (n + 3) v) (none v)).1),
  )

-- where the receptions end with the transmission, they show the call's end of sequence there or nothing
pub late_lost : WithinLaw → Lists → (receptions : List (List Element)) (c : Call) (tail : List ℕ) → IsCall c → All (λ reception. IsHeard reception (spell c ++ tail)) receptions
    → LateAreLost receptions c tail
late_lost law lists receptions c tail lawful heard n place within none =
    late_nowhere law lists receptions c tail lawful n place (none (as_sent law lists receptions c tail lawful n place heard within))
