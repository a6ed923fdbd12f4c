-- Where the places of a call showed no other symbols than its own, the answer is the call or a missing place.
use Rattle.std.proofs.Common.{◌≡◌, ℕ, zero, suc, ◌+◌, ◌<◌, ◌≤◌, true, List, [], ◌∷◌, ◌++◌, length, get_or, take, drop, refl, sym, ap, subst, ◌∙◌, inl, inr, append_assoc, length-append, arith}
use Rattle.std.specs.Prelude.{◌↔◌}
use Rattle.std.proofs.Math.Seq.{take-length, take-append_seam}
use Rattle.std.proofs.lemmas.Bool.{cases_lt, or_cases, false_from_ne_true, or_parts}
use Rattle.std.proofs.lemmas.List.{append-nil, take-append-drop, length-take-le, take_more_same, drop_more, drop_all, get_or_append_left, get_or_push, length_push}
use Rattle.call_values.specs.declared.calls.Call.{Call}
use Rattle.call_values.specs.Calls.{IsCall}
use Rattle.call_grammar.specs.Spelling.{through_check, up_to_end, covered, fields_of, format_of, end_of, check_of}
use Rattle.call_grammar.specs.Walk.{IsViable, IsAtEnd, IsAtCheck}
use Rattle.dsc_symbols.specs.Formats.{IsFormat}
use Rattle.slot_evidence.specs.declared.places.Seen.{Seen}
use Rattle.slot_evidence.specs.declared.places.Seen.TheVariants as seen
use Rattle.slot_evidence.specs.Facts.{Facts}
use Rattle.slot_evidence.specs.Seen.{IsSeen, ShowsNone, ShowsOne}
use Rattle.slot_join.specs.declared.joined.Joined.{Joined}
use Rattle.slot_join.specs.declared.joined.Joined.TheVariants.{Reported, Missing}
use Rattle.slot_join.specs.Extra.{Follows}
use Rattle.slot_join.specs.Shown.{head_of, late_of, IsLate, Gives, IsShown, IsShownLate}
use Rattle.slot_join.specs.Answer.{IsAnswer, IsReported, IsStopped, StopsAt, StopsWith, BehindFormat, BehindHead}
use Rattle.slot_join.specs.OneCall.{ShowsNoOther, IsEndPlace, ShowsNoOtherEnd, IsMissing, IsCallOrMissing}
use Rattle.slot_join.proofs.ShownLists.{push_shown, shown_front, viable_front, front_viable}
use Rattle.slot_join.proofs.LateEnds.{OneCheckPlace, OneEndPlace, one_front, no_second}

-- format specifiers come twice at the start of calls, and nothing else does
abbrev pub FormatsBegin : Type 0
FormatsBegin = (f : ℕ) → IsFormat f ↔ IsViable (f ∷ f ∷ [])

-- the two places of the format specifier showed that of the call alone
pub head_is : (F : Facts) (c : Call) → ShowsNoOther F (through_check c) → (v : ℕ) → head_of F v ≡ true → v ≡ format_of c
head_is F c only v has = elim (or_cases (F 0 v) (F 1 v) has) [
  | inl here ↦ only 0 v (omega arith) here
  | inr here ↦ only 1 v (omega arith) here
]

-- lists that differ in their last symbol alone have different checks
abbrev pub ChecksTell : Type 0
ChecksTell = (l : List ℕ) (a b : ℕ) → check_of (l ++ a ∷ []) ≡ check_of (l ++ b ∷ []) → a ≡ b

-- the laws of calls
pub record Laws : Type 0 where
  pub ends : OneEndPlace
  pub checks : OneCheckPlace
  pub tell : ChecksTell
  pub formats : FormatsBegin

-- what comes before the first end of sequence
abbrev pub before_end : Call → List ℕ
before_end c = format_of c ∷ (format_of c ∷ fields_of c)

-- the symbol that a list has at the place of the call's first end of sequence, and what comes after it
abbrev pub last_of : Call → List ℕ → ℕ
last_of c k = get_or k (length (before_end c)) 0

abbrev pub beyond : Call → List ℕ → List ℕ
beyond c k = drop (length (before_end c) + 1) k

-- where neither place of the format specifier showed a symbol, the first didn't
none_first : (F : Facts) → ShowsNone (head_of F) → ShowsNone (F 0)
none_first F none v = (or_parts (F 0 v) (F 1 v) (none v)).0

module _ (laws : Laws) (F : Facts) (c : Call) (lawful : IsCall c) (only : ShowsNoOther F (through_check c)) where
  end_symbol_at : get_or (through_check c) (length (before_end c)) 0 ≡ end_of c
  end_symbol_at =
      get_or_append_left (up_to_end c) (check_of (covered c) ∷ []) 0 (length (before_end c)) (omega (arith, length_push (before_end c) (end_of c)))
      ∙ get_or_push (before_end c) (end_of c) 0 (length (before_end c)) refl

  long : length (through_check c) ≡ length (before_end c) + 2
  long = omega (arith, length_push (up_to_end c) (check_of (covered c)), length_push (before_end c) (end_of c))

  check_symbol_at : get_or (through_check c) (length (before_end c) + 1) 0 ≡ check_of (covered c)
  check_symbol_at = get_or_push (up_to_end c) (check_of (covered c)) 0 (length (before_end c) + 1) (length_push (before_end c) (end_of c))

  at_end : IsAtEnd (before_end c)
  at_end = record { call = c; lawful = lawful; list = refl }

  -- the first end of sequence is at one place of the call
  one_end : (k rest : List ℕ) (v : ℕ) → through_check c ≡ (k ++ v ∷ []) ++ rest → IsAtEnd k → length rest ≡ 1
  one_end k rest v whole end =
      let check : IsAtCheck (k ++ v ∷ []) = laws.ends k v end (viable_front (k ++ v ∷ []) rest (subst IsViable whole (front_viable c lawful))) in
      let same : (check_of (covered c) ∷ []) ≡ rest =
      (one_front laws.checks c check.call (check_of (covered c) ∷ []) rest lawful check.lawful (whole ∙ ap (λ (x : List ℕ). x ++ rest) check.list)).1 in
      sym (ap length same)

  -- before it no end of sequence is late
  early : (p : ℕ) → p < length (before_end c) → IsAtEnd (take p (through_check c)) → ⊥
  early p below end =
      let v : ℕ = get_or (through_check c) p 0 in
      let rest : List ℕ = drop (p + 1) (through_check c) in
      let more : drop p (through_check c) ≡ v ∷ rest = drop_more (through_check c) p 0 (omega (arith, long)) in
      let whole : through_check c ≡ (take p (through_check c) ++ v ∷ []) ++ rest =
      sym (take-append-drop p (through_check c)) ∙ ap (λ (x : List ℕ). take p (through_check c) ++ x) more ∙ sym (append_assoc (take p (through_check c)) (v ∷ []) rest) in
      absurd (omega (
        arith,
        one_end (take p (through_check c)) rest v whole end,
        ap length whole,
        length-append (take p (through_check c) ++ v ∷ []) rest,
        length_push (take p (through_check c)) v,
        length-take-le p (through_check c) (omega (arith, long)),
        long,
      ))

  -- before the end of sequence a place gives the call's symbol
  given : (p v : ℕ) → p < length (before_end c) → Gives F (take p (through_check c)) p v → v ≡ get_or (through_check c) p 0
  given p v below (inl one) = only p v (omega (arith, long)) one.0
  given p v below (inr late) = absurd (early p below late.at_end)

  -- at the place of a check it gives what was shown there
  given_check : (l : List ℕ) (p v : ℕ) → IsAtCheck l → Gives F l p v → ShowsOne (F p) v
  given_check l p v check (inl one) = one
  given_check l p v check (inr late) = absurd (no_second laws.checks l check late.at_end)

  -- so a shown list has the call's symbols before the end of sequence
  symbol_is : (k : List ℕ) → IsShown F k → (p : ℕ) → p < length k → p < length (before_end c) → take p k ≡ take p (through_check c) → get_or k p 0 ≡ get_or (through_check c) p 0
  symbol_is k a zero lk lf same = ap (λ (x : List ℕ). get_or x 0 0) a.begins ∙ head_is F c only a.format a.head.0
  symbol_is k a (suc zero) lk lf same = ap (λ (x : List ℕ). get_or x 1 0) a.begins ∙ head_is F c only a.format a.head.0
  symbol_is k a (suc (suc i)) lk lf same =
      let v : ℕ = get_or k (suc (suc i)) 0 in
      given (suc (suc i)) v lf (subst (λ (x : List ℕ). Gives F x (suc (suc i)) v) same (a.places (suc (suc i)) (omega arith) lk))

  shares : (k : List ℕ) → IsShown F k → (p : ℕ) → p ≤ length k → p ≤ length (before_end c) → take p k ≡ take p (through_check c)
  shares k a zero lk lf = refl
  shares k a (suc p) lk lf =
      let before : take p k ≡ take p (through_check c) = shares k a p (omega arith) (omega arith) in
      let next : take (p + 1) k ≡ take (p + 1) (through_check c) =
      take_more_same k (through_check c) p 0 (omega arith) (omega (arith, long)) before (symbol_is k a p (omega arith) (omega arith) before) in
      let one : p + 1 ≡ suc p = omega arith in
      subst (λ (n : ℕ). take n k ≡ take n (through_check c)) one next

  -- the call begins with a shown list that ends before the end of sequence
  list_begins : (k : List ℕ) → IsShown F k → length k ≤ length (before_end c) → through_check c ≡ k ++ drop (length k) (through_check c)
  list_begins k a le =
      let whole : k ≡ take (length k) (through_check c) = sym (take-length k) ∙ shares k a (length k) (omega arith) le in
      sym (take-append-drop (length k) (through_check c)) ∙ ap (λ (x : List ℕ). x ++ drop (length k) (through_check c)) (sym whole)

  -- what begins a longer one
  front_is : (k : List ℕ) → IsShown F k → length (before_end c) ≤ length k → take (length (before_end c)) k ≡ before_end c
  front_is k a le =
      shares k a (length (before_end c)) le (omega arith)
      ∙ ap (λ (x : List ℕ). take (length (before_end c)) x) (append_assoc (before_end c) (end_of c ∷ []) (check_of (covered c) ∷ []))
      ∙ take-append_seam (before_end c) (end_of c ∷ (check_of (covered c) ∷ []))

  -- a longer one has some symbol at the end of sequence
  split : (k : List ℕ) → IsShown F k → length (before_end c) < length k → k ≡ (before_end c ++ last_of c k ∷ []) ++ beyond c k
  split k a lt =
      let n : ℕ = length (before_end c) in
      sym (take-append-drop n k) ∙ ap (λ (x : List ℕ). x ++ drop n k) (front_is k a (omega arith)) ∙ ap (λ (x : List ℕ). before_end c ++ x) (drop_more k n 0 lt)
      ∙ sym (append_assoc (before_end c) (get_or k n 0 ∷ []) (drop (n + 1) k))

  at_check : (k : List ℕ) → IsShown F k → IsViable k → length (before_end c) < length k → IsAtCheck (before_end c ++ last_of c k ∷ [])
  at_check k a viable lt = laws.ends (before_end c) (last_of c k) at_end (viable_front (before_end c ++ last_of c k ∷ []) (beyond c k) (subst IsViable (split k a lt) viable))

  beyond_long : (k : List ℕ) → IsShown F k → length (before_end c) < length k → length k ≡ length (before_end c) + 1 + length (beyond c k)
  beyond_long k a lt = omega (arith, ap length (split k a lt), length-append (before_end c ++ last_of c k ∷ []) (beyond c k), length_push (before_end c) (last_of c k))

  -- with the right check after it, the symbol is the call's end of sequence
  right_end : (d : Call) (v w : ℕ) → up_to_end d ≡ before_end c ++ v ∷ [] → w ≡ check_of (covered d) → F (length (before_end c) + 1) w ≡ true → v ≡ end_of c
  right_end d v w front is has =
      let own : w ≡ check_of (covered c) = only (length (before_end c) + 1) w (omega (arith, long)) has ∙ check_symbol_at in
      let covers : covered d ≡ (format_of c ∷ fields_of c) ++ v ∷ [] = ap (λ (x : List ℕ). drop 1 x) front in
      laws.tell (format_of c ∷ fields_of c) v (end_of c) (ap (λ (x : List ℕ). check_of x) (sym covers) ∙ sym is ∙ own)

  -- a longer shown list is that of a call up to its end of sequence, and its check is the place that follows
  check_shown : (k : List ℕ) → IsShown F k → (check : IsAtCheck (before_end c ++ last_of c k ∷ [])) → length (before_end c) + 1 < length k
      → ShowsOne (F (length (before_end c) + 1)) (get_or k (length (before_end c) + 1) 0)
  check_shown k a check lt =
      let n : ℕ = length (before_end c) in
      let counts : length (before_end c ++ last_of c k ∷ []) ≡ n + 1 = length_push (before_end c) (last_of c k) in
      let front : take (n + 1) k ≡ before_end c ++ last_of c k ∷ [] =
      ap (λ (x : List ℕ). take (n + 1) x) (split k a (omega arith)) ∙ ap (λ (m : ℕ). take m ((before_end c ++ last_of c k ∷ []) ++ beyond c k)) (sym counts)
      ∙ take-append_seam (before_end c ++ last_of c k ∷ []) (beyond c k) in
      given_check (before_end c ++ last_of c k ∷ []) (n + 1) (get_or k (n + 1) 0) check
      (subst (λ (x : List ℕ). Gives F x (n + 1) (get_or k (n + 1) 0)) front (a.places (n + 1) (omega arith) lt))

  -- the call that is shown is this one
  short_call : (d : Call) → IsCall d → IsShown F (through_check d) → length (through_check d) ≤ length (before_end c) → d ≡ c
  short_call d ld shown le =
      let rest : List ℕ = drop (length (through_check d)) (through_check c) in
      let whole : up_to_end d ++ ((check_of (covered d) ∷ []) ++ rest) ≡ up_to_end c ++ (check_of (covered c) ∷ []) =
      sym (append_assoc (up_to_end d) (check_of (covered d) ∷ []) rest) ∙ sym (list_begins (through_check d) shown le) in
      (one_front laws.checks d c ((check_of (covered d) ∷ []) ++ rest) (check_of (covered c) ∷ []) ld lawful whole).0

  long_call : (d : Call) → IsCall d → IsShown F (through_check d) → length (before_end c) < length (through_check d) → d ≡ c
  long_call d ld shown lt =
      let k : List ℕ = through_check d in
      let n : ℕ = length (before_end c) in
      let check : IsAtCheck (before_end c ++ last_of c k ∷ []) = at_check k shown (front_viable d ld) lt in
      let whole : up_to_end d ++ (check_of (covered d) ∷ []) ≡ up_to_end check.call ++ beyond c k = split k shown lt ∙ ap (λ (x : List ℕ). x ++ beyond c k) check.list in
      let same = one_front laws.checks d check.call (check_of (covered d) ∷ []) (beyond c k) ld check.lawful whole in
      let front : up_to_end d ≡ before_end c ++ last_of c k ∷ [] = ap up_to_end same.0 ∙ sym check.list in
      let symbol : get_or k (n + 1) 0 ≡ check_of (covered d) =
      get_or_push (up_to_end d) (check_of (covered d)) 0 (n + 1) (ap length front ∙ length_push (before_end c) (last_of c k)) in
      let shown_there : ShowsOne (F (n + 1)) (get_or k (n + 1) 0) = check_shown k shown check (omega (arith, beyond_long k shown lt, ap length same.1)) in
      let is_end : last_of c k ≡ end_of c = right_end d (last_of c k) (get_or k (n + 1) 0) front symbol shown_there.0 in
      (one_front laws.checks d c [] [] ld lawful (ap (λ (x : List ℕ). x ++ []) (front ∙ ap (λ (v : ℕ). before_end c ++ v ∷ []) is_end))).0

  this_call : (d : Call) → IsCall d → IsShown F (through_check d) → d ≡ c
  this_call d ld shown = elim (cases_lt (length (before_end c)) (length (through_check d))) [
    | inl lt ↦ long_call d ld shown lt
    | inr le ↦ short_call d ld shown le
  ]

  reported : (answer : Joined) → IsReported F answer → IsCallOrMissing F c answer
  reported answer r =
      let same : r.call ≡ c = this_call r.call r.lawful r.shown in
      inl (record {
        extra = r.extra;
        follows = subst (λ (d : Call). Follows F d r.extra) same r.follows;
        answer_is = r.answer_is ∙ ap (λ (d : Call). Reported d r.extra) same;
      })

  -- a list after which the call's symbol is given goes on
  goes_on : (k : List ℕ) (v : ℕ) → IsShown F k → length k ≤ length (before_end c) → Gives F k (length k) v → v ≡ get_or (through_check c) (length k) 0
      → IsShown F (k ++ v ∷ []) × IsViable (k ++ v ∷ [])
  goes_on k v a le gives is =
      let n : ℕ = length k in
      let rest : List ℕ = drop (n + 1) (through_check c) in
      let more : drop n (through_check c) ≡ v ∷ rest = drop_more (through_check c) n 0 (omega (arith, long)) ∙ ap (λ (x : ℕ). x ∷ rest) (sym is) in
      let whole : through_check c ≡ (k ++ v ∷ []) ++ rest = list_begins k a le ∙ ap (λ (x : List ℕ). k ++ x) more ∙ sym (append_assoc k (v ∷ []) rest) in
      (push_shown F k v a gives, viable_front (k ++ v ∷ []) rest (subst IsViable whole (front_viable c lawful)))

  module _ (answer : Joined) (s : IsStopped F answer) where
    -- so no list longer than the longest does
    no_more : (v : ℕ) → length s.list ≤ length (before_end c) → Gives F s.list (length s.list) v → v ≡ get_or (through_check c) (length s.list) 0 → ⊥
    no_more v le gives is =
        let longer = goes_on s.list v s.longest.shown le gives is in
        let most : length (s.list ++ v ∷ []) ≤ length s.list = s.longest.longest (s.list ++ v ∷ []) longer.0 longer.1 in
        absurd (omega (arith, length_push s.list v))

    -- the longest list ends before the end of sequence
    late_none : length s.list ≤ length (before_end c) → ShowsNone (F (length s.list)) → IsEndPlace c (length s.list) → ShowsNoOtherEnd F c (length s.list)
        → ShowsNone (late_of F (length s.list))
    late_none le none place other v = false_from_ne_true (late_of F (length s.list) v) (λ has.
        let n : length s.list ≡ length (before_end c) = omega (arith, place, length_push (before_end c) (end_of c)) in
        let front : s.list ≡ before_end c =
        sym (take-length s.list) ∙ ap (λ (m : ℕ). take m s.list) n ∙ front_is s.list s.longest.shown (omega arith) in
        let late : IsLate F s.list (length s.list) v = record {
          at_end = subst IsAtEnd (sym front) at_end;
          none = none;
          copies = (has, λ w more. other w more ∙ sym (other v has));
        } in
        no_more v le (inr late) (other v has ∙ sym end_symbol_at ∙ ap (λ (m : ℕ). get_or (through_check c) m 0) (sym n)))

    before : (here : Seen) → length s.list ≤ length (before_end c) → IsSeen (F (length s.list)) here → StopsWith F s.list here answer → IsCallOrMissing F c answer
    before seen.None le none is = inr (record {
      place = length s.list;
      inside = omega (arith, long);
      blank = none;
      late = late_none le none;
      answer_is = is;
    })
    before (seen.Differ a b) le several is =
        let low : a ≡ get_or (through_check c) (length s.list) 0 = only (length s.list) a (omega (arith, long)) several.has_least in
        let high : b ≡ get_or (through_check c) (length s.list) 0 = only (length s.list) b (omega (arith, long)) several.has_greatest in
        absurd (omega (arith, low, high, several.apart))
    before (seen.One v) le one is = absurd (no_more v le (inl one) (only (length s.list) v (omega (arith, long)) one.0))

    -- the longest list ends with the end of sequence
    module _ (ends : length s.list ≡ length (before_end c) + 1) where
      list_is : s.list ≡ before_end c ++ last_of c s.list ∷ []
      list_is =
          split s.list s.longest.shown (omega (arith, ends)) ∙ ap (λ (x : List ℕ). (before_end c ++ last_of c s.list ∷ []) ++ x) (drop_all (length (before_end c) + 1) s.list (omega (arith, ends)))
          ∙ append-nil (before_end c ++ last_of c s.list ∷ [])

      -- which isn't the call's, or its check would be shown
      other_end : (v : ℕ) → ShowsOne (F (length s.list)) v → last_of c s.list ≡ end_of c → ⊥
      other_end v one is =
          let here : F (length (before_end c) + 1) v ≡ true = subst (λ (n : ℕ). F n v ≡ true) ends one.0 in
          let symbol : v ≡ check_of (covered c) = only (length (before_end c) + 1) v (omega (arith, long)) here ∙ check_symbol_at in
          let front : s.list ≡ up_to_end c = list_is ∙ ap (λ (x : ℕ). before_end c ++ x ∷ []) is in
          let whole : s.list ++ v ∷ [] ≡ through_check c = ap (λ (x : List ℕ). x ++ v ∷ []) front ∙ ap (λ (x : ℕ). up_to_end c ++ x ∷ []) symbol in
          s.unreported c lawful (subst (λ (x : List ℕ). IsShown F x) whole (push_shown F s.list v s.longest.shown (inl one)))

      -- so it is late
      end_given : Gives F (before_end c) (length (before_end c)) (last_of c s.list)
      end_given =
          subst (λ (x : List ℕ). Gives F x (length (before_end c)) (last_of c s.list)) (front_is s.list s.longest.shown (omega (arith, ends)))
          (s.longest.shown.places (length (before_end c)) (omega arith) (omega (arith, ends)))

      end_late : (v : ℕ) → ShowsOne (F (length s.list)) v → Gives F (before_end c) (length (before_end c)) (last_of c s.list) → IsLate F (before_end c) (length (before_end c)) (last_of c s.list)
      end_late v one (inr late) = late
      end_late v one (inl shown) =
          absurd (other_end v one (only (length (before_end c)) (last_of c s.list) (omega (arith, long)) shown.0 ∙ end_symbol_at))

      shown_late : IsLate F (before_end c) (length (before_end c)) (last_of c s.list) → IsShownLate F s.list
      shown_late late = record {
        place = length (before_end c);
        inside = omega (arith, ends);
        late = subst (λ (x : List ℕ). IsLate F x (length (before_end c)) (last_of c s.list)) (sym (front_is s.list s.longest.shown (omega (arith, ends)))) late;
      }

      late_stop : (v : ℕ) → ShowsOne (F (length s.list)) v → IsLate F (before_end c) (length (before_end c)) (last_of c s.list) → StopsAt F s.list v answer → IsMissing F c answer
      late_stop v one late (inl is) = record {
        place = length (before_end c);
        inside = omega (arith, long);
        blank = late.none;
        late = λ _ other. absurd (other_end v one (other (last_of c s.list) late.copies.0));
        answer_is = is.1 ∙ ap (λ (n : ℕ). Missing n) (omega (arith, ends));
      }
      late_stop v one late (inr (inl is)) = absurd (is.0 (shown_late late))
      late_stop v one late (inr (inr is)) = absurd (is.0 (shown_late late))

      behind_end : (here : Seen) → IsSeen (F (length s.list)) here → StopsWith F s.list here answer → IsCallOrMissing F c answer
      behind_end seen.None none is = inr (record {
        place = length s.list;
        inside = omega (arith, long, ends);
        blank = none;
        late = λ place _. absurd (omega (arith, place, ends, length_push (before_end c) (end_of c)));
        answer_is = is;
      })
      behind_end (seen.Differ a b) several is =
          let low : a ≡ get_or (through_check c) (length s.list) 0 = only (length s.list) a (omega (arith, long, ends)) several.has_least in
          let high : b ≡ get_or (through_check c) (length s.list) 0 = only (length s.list) b (omega (arith, long, ends)) several.has_greatest in
          absurd (omega (arith, low, high, several.apart))
      behind_end (seen.One v) one is = inr (late_stop v one (end_late v one end_given) is)

    -- the longest list ends after the check, and a call is shown
    past : length (before_end c) + 1 < length s.list → ⊥
    past lt =
        let k : List ℕ = s.list in
        let n : ℕ = length (before_end c) in
        let front : List ℕ = before_end c ++ last_of c k ∷ [] in
        let check : IsAtCheck front = at_check k s.longest.shown s.longest.viable (omega arith) in
        let e : Call = check.call in
        let w : ℕ = get_or k (n + 1) 0 in
        let rest : List ℕ = drop (n + 1 + 1) k in
        let whole : k ≡ front ++ (w ∷ rest) = split k s.longest.shown (omega arith) ∙ ap (λ (x : List ℕ). front ++ x) (drop_more k (n + 1) 0 lt) in
        let d : Call = s.longest.viable.call in
        let after : List ℕ = (w ∷ rest) ++ s.longest.viable.rest in
        let ends : List ℕ = check_of (covered d) ∷ (end_of d ∷ end_of d ∷ []) in
        let spelled : up_to_end d ++ ends ≡ up_to_end e ++ after =
        sym (append_assoc (up_to_end d) (check_of (covered d) ∷ []) (end_of d ∷ end_of d ∷ [])) ∙ s.longest.viable.list ∙ ap (λ (x : List ℕ). x ++ s.longest.viable.rest) whole
        ∙ append_assoc front (w ∷ rest) s.longest.viable.rest ∙ ap (λ (x : List ℕ). x ++ after) check.list in
        let same = one_front laws.checks d e ends after s.longest.viable.lawful check.lawful spelled in
        let symbol : check_of (covered d) ≡ w = ap (λ (x : List ℕ). get_or x 0 0) same.1 in
        let checked : through_check e ≡ front ++ w ∷ [] =
        ap (λ (x : List ℕ). x ++ (check_of (covered e) ∷ [])) (sym check.list) ∙ ap (λ (x : ℕ). front ++ x ∷ []) (ap (λ (x : Call). check_of (covered x)) (sym same.0) ∙ symbol) in
        let list : k ≡ (front ++ w ∷ []) ++ rest = whole ∙ sym (append_assoc front (w ∷ []) rest) in
        let shown : IsShown F (front ++ w ∷ []) = shown_front F (front ++ w ∷ []) rest (omega (arith, length_push front w, length_push (before_end c) (last_of c k))) (subst (λ (x : List ℕ). IsShown F x) list s.longest.shown) in
        s.unreported e check.lawful (subst (λ (x : List ℕ). IsShown F x) (sym checked) shown)

    stopped : IsCallOrMissing F c answer
    stopped = elim (cases_lt (length (before_end c)) (length s.list)) [
      | inr le ↦ before s.here le s.seen s.stops
      | inl lt ↦ elim (cases_lt (length (before_end c) + 1) (length s.list)) [
        | inl beyond_check ↦ absurd (past beyond_check)
        | inr le ↦ behind_end (omega arith) s.here s.seen s.stops
      ]
    ]

  -- the places of the format specifier aren't that of the end of sequence
  not_end : (p : ℕ) → p < 2 → IsEndPlace c p → ⊥
  not_end p two place = absurd (omega (arith, two, place, length_push (before_end c) (end_of c)))

  behind_format : (f : ℕ) (answer : Joined) → f ≡ format_of c → BehindFormat F f answer → IsCallOrMissing F c answer
  behind_format f answer is (inl outside) =
      let begins : IsViable (format_of c ∷ format_of c ∷ []) = viable_front (format_of c ∷ format_of c ∷ []) (drop 2 (through_check c)) (front_viable c lawful) in
      absurd (outside.0 ((laws.formats f).1 (subst (λ (x : ℕ). IsViable (x ∷ x ∷ [])) (sym is) begins)))
  behind_format f answer is (inr (inl missing)) =
      inr (record { place = 0; inside = omega arith; blank = missing.2; late = λ place _. absurd (not_end 0 (omega arith) place); answer_is = missing.3 })
  behind_format f answer is (inr (inr (inl missing))) =
      inr (record { place = 1; inside = omega arith; blank = missing.3; late = λ place _. absurd (not_end 1 (omega arith) place); answer_is = missing.4 })
  behind_format f answer is (inr (inr (inr (has, inl reports)))) = reported answer reports
  behind_format f answer is (inr (inr (inr (has, inr stops)))) = stopped answer stops

  behind_head : (h : Seen) (answer : Joined) → IsSeen (head_of F) h → BehindHead F h answer → IsCallOrMissing F c answer
  behind_head seen.None answer none is =
      inr (record { place = 0; inside = omega arith; blank = none_first F none; late = λ place _. absurd (not_end 0 (omega arith) place); answer_is = is })
  behind_head (seen.Differ a b) answer several is =
      let low : a ≡ format_of c = head_is F c only a several.has_least in
      let high : b ≡ format_of c = head_is F c only b several.has_greatest in
      absurd (omega (arith, low, high, several.apart))
  behind_head (seen.One f) answer one is = behind_format f answer (head_is F c only f one.0) is

  pub call_or_missing : (answer : Joined) → IsAnswer F answer → IsCallOrMissing F c answer
  call_or_missing answer a = behind_head a.head answer a.seen a.answers
