-- A call whose places came intact, each at some receiver, is the answer.
use Rattle.std.proofs.Common.{◌≡◌, ℕ, ◌<◌, ◌≤◌, Bool, true, false, List, [], ◌∷◌, ◌++◌, length, get_or, take, drop, refl, sym, ap, subst, ◌∙◌, inl, inr, append_assoc, arith, All}
use Rattle.std.proofs.Math.Seq.{take-append_seam}
use Rattle.std.proofs.lemmas.Bool.{or_left, or_right, false_from_ne_true}
use Rattle.std.proofs.lemmas.List.{get_or_append_left, get_or_push, length_push}
use Rattle.ten_unit.specs.declared.character.Element.{Element}
use Rattle.call_values.specs.declared.calls.Call.{Call}
use Rattle.call_values.specs.Calls.{IsCall}
use Rattle.call_grammar.specs.Spelling.{spell, through_check, up_to_end, covered, check_of, end_of, format_of}
use Rattle.call_grammar.specs.Walk.{IsViable, IsAtEnd}
use Rattle.slot_evidence.specs.Facts.{facts_of_all}
use Rattle.slot_evidence.specs.Seen.{ShowsOne}
use Rattle.slot_join.specs.declared.joined.Joined.{Joined}
use Rattle.slot_join.specs.declared.joined.Joined.TheVariants.{Reported, Missing}
use Rattle.slot_join.specs.Shown.{head_of, late_of, IsLate, Gives, IsShown}
use Rattle.slot_join.specs.Answer.{HasFormat, IsAnswer}
use Rattle.slot_join.specs.Heard.{IsHeard}
use Rattle.slot_join.specs.OneCall.{ShowsNoOther, IsEndPlace, ShowsNoOtherEnd, IsCallReported}
use Rattle.slot_join.specs.Intact.{CameSomewhere, EndCameLate, IsSent, IsSentOrLostPlace, ArrivesInParts}
use Rattle.slot_join.proofs.ShownLists.{viable_front, front_viable}
use Rattle.slot_join.proofs.CallOrMissing.{FormatsBegin, head_is, before_end}
use Rattle.slot_join.proofs.Copies.{HeardLaw, Lists, all_told, somewhere_shown}
use Rattle.slot_join.proofs.HeardEnds.{WithinLaw, as_sent, later_shown}
use Rattle.slot_join.proofs.Stops.{FrontsDiffer}
use Rattle.slot_join.proofs.OneAnswer.{OneSeen}
use Rattle.slot_join.proofs.ShownCalls.{shown_is_reported}

-- its places but the first end of sequence each came intact, and of that perhaps a later copy alone
module _ (law : HeardLaw) (within_law : WithinLaw) (lists : Lists) (formats : FormatsBegin) (receptions : List (List Element)) (c : Call) (tail : List ℕ)
    (lawful : IsCall c) (heard : All (λ reception. IsHeard reception (spell c ++ tail)) receptions) (arrives : ArrivesInParts receptions c tail) where
  only : ShowsNoOther (facts_of_all receptions) (through_check c)
  only = all_told law receptions c tail lawful heard

  came : (p : ℕ) → p < length (through_check c) → CameSomewhere receptions (spell c ++ tail) p → facts_of_all receptions p (get_or (through_check c) p 0) ≡ true
  came p below somewhere = somewhere_shown lists receptions c tail p lawful below somewhere

  format_one : ShowsOne (head_of (facts_of_all receptions)) (format_of c)
  format_one = (
    elim arrives.format [
      | inl first ↦ or_left (facts_of_all receptions 0 (format_of c)) (facts_of_all receptions 1 (format_of c)) (came 0 (omega arith) first)
      | inr second ↦ or_right (facts_of_all receptions 0 (format_of c)) (facts_of_all receptions 1 (format_of c)) (came 1 (omega arith) second)
    ],
    λ v has. head_is (facts_of_all receptions) c only v has,
  )

  -- the format specifiers and the fields come before the first end of sequence
  front : (n : ℕ) → IsEndPlace c n → take n (through_check c) ≡ before_end c
  front n place =
      let is : n ≡ length (before_end c) = omega (arith, place, length_push (before_end c) (end_of c)) in
      ap (λ (m : ℕ). take m (through_check c)) is ∙ ap (λ (l : List ℕ). take (length (before_end c)) l) (append_assoc (before_end c) (end_of c ∷ []) (check_of (covered c) ∷ []))
      ∙ take-append_seam (before_end c) (end_of c ∷ (check_of (covered c) ∷ []))

  symbol : (n : ℕ) → IsEndPlace c n → get_or (through_check c) n 0 ≡ end_of c
  symbol n place =
      get_or_append_left (up_to_end c) (check_of (covered c) ∷ []) 0 n (omega (arith, place))
      ∙ get_or_push (before_end c) (end_of c) 0 n (omega (arith, place, length_push (before_end c) (end_of c)))

  end_none : (n v : ℕ) → IsEndPlace c n → facts_of_all receptions n (end_of c) ≡ false → facts_of_all receptions n v ≡ true → ⊥
  end_none n v place none has =
      let is : v ≡ end_of c = only n v (omega (arith, place, length_push (up_to_end c) (check_of (covered c)))) has ∙ symbol n place in
      let shown : facts_of_all receptions n (end_of c) ≡ true = subst (λ (u : ℕ). facts_of_all receptions n u ≡ true) is has in
      absurd (cc (none, shown))

  -- where its place showed nothing it is known from the later copies
  late : (n : ℕ) → EndCameLate receptions c tail n → facts_of_all receptions n (end_of c) ≡ false → IsLate (facts_of_all receptions) (take n (through_check c)) n (get_or (through_check c) n 0)
  late n came_late none =
      let place : IsEndPlace c n = came_late.end_place in
      let shown : late_of (facts_of_all receptions) n (end_of c) ≡ true = later_shown within_law lists receptions c tail lawful n place came_late.copy in
      let other : ShowsNoOtherEnd (facts_of_all receptions) c n = as_sent within_law lists receptions c tail lawful n place heard came_late.within in
      let at_end : IsAtEnd (before_end c) = record { call = c; lawful = lawful; list = refl } in
      record {
        at_end = subst IsAtEnd (sym (front n place)) at_end;
        none = λ v. false_from_ne_true (facts_of_all receptions n v) (end_none n v place none);
        copies = subst (λ (v : ℕ). ShowsOne (late_of (facts_of_all receptions) n) v) (sym (symbol n place)) (shown, λ v has. other v has);
      }

  by_end : (n : ℕ) (b : Bool) → EndCameLate receptions c tail n → facts_of_all receptions n (end_of c) ≡ b
      → Gives (facts_of_all receptions) (take n (through_check c)) n (get_or (through_check c) n 0)
  by_end n true came_late is =
      let place : IsEndPlace c n = came_late.end_place in
      let below : n < length (through_check c) = omega (arith, place, length_push (up_to_end c) (check_of (covered c))) in
      inl (subst (λ (u : ℕ). facts_of_all receptions n u ≡ true) (sym (symbol n place)) is, λ v has. only n v below has)
  by_end n false came_late is = inr (late n came_late is)

  given : (p : ℕ) → 2 ≤ p → p < length (through_check c) → Gives (facts_of_all receptions) (take p (through_check c)) p (get_or (through_check c) p 0)
  given p least below = elim (arrives.places p least below) [
    | inl here ↦ inl (came p below here, λ v has. only p v below has)
    | inr came_late ↦ by_end p (facts_of_all receptions p (end_of c)) came_late refl
  ]

  shown : IsShown (facts_of_all receptions) (through_check c)
  shown = record {
    format = format_of c;
    rest = drop 2 (through_check c);
    begins = refl;
    head = format_one;
    places = given;
  }

  has : HasFormat (facts_of_all receptions) (format_of c)
  has =
      let f : ℕ = format_of c in
      let begins : IsViable (f ∷ f ∷ []) = viable_front (f ∷ f ∷ []) (drop 2 (through_check c)) (front_viable c lawful) in
      record {
        is_one = (formats f).1 begins;
        first = λ both none. absurd (cc (none f, came 0 (omega arith) (arrives.both both).0));
        second = λ both none. absurd (cc (none f, came 1 (omega arith) (arrives.both both).1));
      }

  reported : OneSeen → FrontsDiffer → (answer : Joined) → IsAnswer (facts_of_all receptions) answer → IsCallReported (facts_of_all receptions) c answer
  reported one differ answer is = shown_is_reported differ (facts_of_all receptions) c answer lawful shown has one format_one is

  -- so it isn't a lost place
  pub sent : OneSeen → FrontsDiffer → (answer : Joined) → IsAnswer (facts_of_all receptions) answer → IsSentOrLostPlace receptions c tail answer → IsSent receptions c tail answer
  sent one differ answer is (inl told) = told
  sent one differ answer is (inr lost) =
      let r = reported one differ answer is in
      let apart : Missing lost.place ≡ Reported c r.extra = sym lost.answer_is ∙ r.answer_is in
      absurd (cc)
