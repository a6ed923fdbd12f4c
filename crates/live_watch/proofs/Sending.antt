-- Where the places of a call that was sent showed no other symbols than its own, no other call may be told.
use Rattle.std.proofs.Common.{◌≡◌, ℕ, zero, suc, ◌+◌, ◌<◌, ◌≤◌, ◌==◌, Bool, true, false, ◌&&◌, ◌||◌, nat_lt, List, [], ◌∷◌, ◌++◌, length, get_or, take, refl, sym, ap, ◌∙◌, inl, inr, append_assoc, arith}
use Rattle.std.specs.Prelude.{◌↔◌}
use Rattle.std.proofs.Math.Seq.{take-append_seam}
use Rattle.std.proofs.lemmas.Bool.{eqb-true, eq-eqb, ltb-true, lt-ltb, or_cases, or_left, or_right, and_from, and_parts, false_from_ne_true}
use Rattle.std.proofs.lemmas.List.{get_or_append_left, get_or_push, length_push}
use Rattle.call_values.specs.declared.calls.Call.{Call}
use Rattle.call_values.specs.declared.calls.Call.TheVariants.{Alert, Ack, Relay, RelayAck, AllShips, AreaCall, GroupCall, Individual, Service}
use Rattle.call_values.specs.declared.choices.End.{End}
use Rattle.call_values.specs.declared.choices.End.TheVariants.{Ask, Reply, Plain}
use Rattle.call_values.specs.declared.parts.Kind.{Kind}
use Rattle.call_values.specs.declared.parts.Kind.TheVariants.{Test, AskPosition, Position}
use Rattle.call_values.specs.Calls.{IsCall}
use Rattle.call_values.specs.Ends.{end_symbol}
use Rattle.call_grammar.specs.Spelling.{up_to_end, through_check, covered, fields_of, format_of, check_of, end_of, kind_end, spell}
use Rattle.call_grammar.specs.Walk.{IsViable}
use Rattle.dsc_symbols.specs.Formats.{IsFormat}
use Rattle.slot_evidence.specs.declared.places.Seen.TheVariants as seen
use Rattle.slot_evidence.specs.Facts.{Facts}
use Rattle.slot_evidence.specs.Seen.{ShowsNone, ShowsOne}
use Rattle.slot_join.specs.declared.joined.Joined.{Joined}
use Rattle.slot_join.specs.declared.joined.Joined.TheVariants.{Reported}
use Rattle.slot_join.specs.declared.joined.Extra.TheVariants.{Absent}
use Rattle.slot_join.specs.Extra.{IsBlankFrom}
use Rattle.slot_join.specs.Shown.{head_of, late_of, IsLate, Gives, IsShown}
use Rattle.slot_join.specs.Answer.{IsAnswer}
use Rattle.slot_join.specs.OneCall.{ShowsNoOther, IsCallOrMissing}
use Rattle.live_watch.specs.Told.{IsShownAt, IsTold}
use Rattle.live_watch.proofs.Telling.{before_end}

-- format specifiers come twice at the start of calls, and nothing else does
abbrev pub FormatsBegin : Type 0
FormatsBegin = (f : ℕ) → IsFormat f ↔ IsViable (f ∷ f ∷ [])

-- where a call's places showed no other symbols, the answer is the call or a missing place
abbrev pub CallOrMissing : Type 0
CallOrMissing = (F : Facts) (call : Call) (answer : Joined) → IsCall call → ShowsNoOther F (through_check call) → IsAnswer F answer → IsCallOrMissing F call answer

-- each end of sequence of a call is one that there is
kind_own : (k : Kind) → (e : End) × (end_symbol e ≡ kind_end k)
kind_own (Test true) = (Reply, refl)
kind_own (Test false) = (Ask, refl)
kind_own AskPosition = (Ask, refl)
kind_own (Position position time) = (Reply, refl)

own_end : (c : Call) → (e : End) × (end_symbol e ≡ end_of c)
own_end (Alert casualty) = (Plain, refl)
own_end (Ack from casualty) = (Plain, refl)
own_end (Relay to from casualty true) = (Ask, refl)
own_end (Relay to from casualty false) = (Plain, refl)
own_end (RelayAck to from casualty) = (Reply, refl)
own_end (AllShips category from first second f1 f2) = (Plain, refl)
own_end (AreaCall area category from first second f1 f2) = (Plain, refl)
own_end (GroupCall group category from first second f1 f2) = (Plain, refl)
own_end (Individual to category from first second message e) = (e, refl)
own_end (Service to category from kind) = kind_own kind

module _ (formats : FormatsBegin) (F : Facts) (d : Call) (told : IsTold F d) where
  abbrev own : ℕ → ℕ
  own p = get_or (spell d) p 0

  -- of the facts those of the told call's list alone, and the format specifier at both of its places
  abbrev only_own : Facts
  only_own p v = v == own p && (nat_lt p (length (spell d)) && (nat_lt p 2 || F p v))

  shows_own : (p v : ℕ) → v ≡ own p → p < length (spell d) → (nat_lt p 2 || F p v) ≡ true → only_own p v ≡ true
  shows_own p v is below has = and_from _ _ (eq-eqb v (own p) is) (and_from _ _ (lt-ltb p (length (spell d)) below) has)

  is_own : (p v : ℕ) → only_own p v ≡ true → v ≡ own p
  is_own p v is = eqb-true v (own p) (and_parts _ _ is).0

  is_inside : (p v : ℕ) → only_own p v ≡ true → p < length (spell d)
  is_inside p v is = ltb-true p (length (spell d)) (and_parts _ _ (and_parts _ _ is).1).0

  has_own : (p v : ℕ) → only_own p v ≡ true → (nat_lt p 2 || F p v) ≡ true
  has_own p v is = (and_parts _ _ (and_parts _ _ is).1).1

  long : length (spell d) ≡ length (through_check d) + 2
  long = omega (arith, length_push (through_check d ++ end_of d ∷ []) (end_of d), length_push (through_check d) (end_of d), ap length (append_assoc (through_check d) (end_of d ∷ []) (end_of d ∷ [])))

  own_front : (p : ℕ) → p < length (through_check d) → own p ≡ get_or (through_check d) p 0
  own_front p below = get_or_append_left (through_check d) (end_of d ∷ end_of d ∷ []) 0 p below

  two_ends : spell d ≡ (through_check d ++ end_of d ∷ []) ++ end_of d ∷ []
  two_ends = sym (append_assoc (through_check d) (end_of d ∷ []) (end_of d ∷ []))

  own_second : (p : ℕ) → length (through_check d) ≡ p → own p ≡ end_of d
  own_second p at =
      ap (λ (x : List ℕ). get_or x p 0) two_ends ∙ get_or_append_left (through_check d ++ end_of d ∷ []) (end_of d ∷ []) 0 p (omega (arith, length_push (through_check d) (end_of d)))
      ∙ get_or_push (through_check d) (end_of d) 0 p at

  own_third : (p : ℕ) → length (through_check d) + 1 ≡ p → own p ≡ end_of d
  own_third p at = ap (λ (x : List ℕ). get_or x p 0) two_ends ∙ get_or_push (through_check d ++ end_of d ∷ []) (end_of d) 0 p (omega (arith, length_push (through_check d) (end_of d)))

  head_one : ShowsOne (head_of only_own) (format_of d)
  head_one = (
    or_left _ _ (shows_own 0 (format_of d) refl (omega (arith, long)) refl),
    λ w is. elim (or_cases (only_own 0 w) (only_own 1 w) is) [
      | inl first ↦ is_own 0 w first
      | inr second ↦ is_own 1 w second
    ],
  )

  module _ (p : ℕ) (two : 2 ≤ p) (below : p < length (through_check d)) where
    abbrev here : ℕ
    here = get_or (through_check d) p 0

    shown_here : F p here ≡ true → ShowsOne (only_own p) here
    shown_here shown = (
      shows_own p here (sym (own_front p below)) (omega (arith, long)) (or_right (nat_lt p 2) _ shown),
      λ w is. is_own p w is ∙ own_front p below,
    )

    -- past the format specifier a fact that is kept was one
    was_shown : (q v : ℕ) → 2 ≤ q → only_own q v ≡ true → F q v ≡ true
    was_shown q v past is = elim (or_cases (nat_lt q 2) (F q v) (has_own q v is)) [
      | inl low ↦ absurd (omega (arith, ltb-true q 2 low))
      | inr shown ↦ shown
    ]

    not_there : (v : ℕ) → F p here ≡ false → only_own p v ≡ true → ⊥
    not_there v none is =
        let same : v ≡ here = is_own p v is ∙ own_front p below in
        let shown : F p here ≡ true = ap (F p) (sym same) ∙ was_shown p v two is in
        absurd (cc)

    none_here : F p here ≡ false → ShowsNone (only_own p)
    none_here none v = false_from_ne_true (only_own p v) (not_there v none)

    late_here : p + 1 ≡ length (up_to_end d) → late_of F p (end_of d) ≡ true → F p here ≡ false → IsLate only_own (take p (through_check d)) p here
    late_here place late none =
        let counts : length (through_check d) ≡ p + 2 = omega (arith, length_push (up_to_end d) (check_of (covered d))) in
        let front : length (before_end d) ≡ p = omega (arith, length_push (before_end d) (end_of d)) in
        let list : take p (through_check d) ≡ before_end d =
        ap (λ (n : ℕ). take n (through_check d)) (sym front)
        ∙ ap (λ (x : List ℕ). take (length (before_end d)) x) (append_assoc (before_end d) (end_of d ∷ []) (check_of (covered d) ∷ []))
        ∙ take-append_seam (before_end d) (end_of d ∷ (check_of (covered d) ∷ [])) in
        let is_end : here ≡ end_of d =
        get_or_append_left (up_to_end d) (check_of (covered d) ∷ []) 0 p (omega arith) ∙ get_or_push (before_end d) (end_of d) 0 p front in
        let second : own (p + 2) ≡ end_of d = own_second (p + 2) counts in
        let third : own (p + 3) ≡ end_of d = own_third (p + 3) (omega arith) in
        record {
          at_end = record { call = d; lawful = told.lawful; list = ap (λ (x : List ℕ). x ++ end_of d ∷ []) (sym list) };
          none = none_here none;
          copies = (
            elim (or_cases (F (p + 2) (end_of d)) (F (p + 3) (end_of d)) late) [
              | inl first ↦ or_left _ _ (shows_own (p + 2) here (is_end ∙ sym second) (omega (arith, long)) (or_right (nat_lt (p + 2) 2) _ (ap (F (p + 2)) is_end ∙ first)))
              | inr last ↦ or_right (only_own (p + 2) here) _ (shows_own (p + 3) here (is_end ∙ sym third) (omega (arith, long)) (or_right (nat_lt (p + 3) 2) _ (ap (F (p + 3)) is_end ∙ last)))
            ],
            λ w is. elim (or_cases (only_own (p + 2) w) (only_own (p + 3) w) is) [
              | inl first ↦ is_own (p + 2) w first ∙ second ∙ sym is_end
              | inr last ↦ is_own (p + 3) w last ∙ third ∙ sym is_end
            ],
          );
        }

    given_late : (b : Bool) → F p here ≡ b → p + 1 ≡ length (up_to_end d) → late_of F p (end_of d) ≡ true → Gives only_own (take p (through_check d)) p here
    given_late true is place late = inl (shown_here is)
    given_late false is place late = inr (late_here place late is)

    given_here : IsShownAt F d p → Gives only_own (take p (through_check d)) p here
    given_here (inl shown) = inl (shown_here shown)
    given_here (inr late) = given_late (F p here) refl late.0 late.1

  shown : IsShown only_own (through_check d)
  shown = record {
    format = format_of d;
    rest = (fields_of d ++ (end_of d ∷ [])) ++ (check_of (covered d) ∷ []);
    begins = refl;
    head = head_one;
    places = λ p two below. given_here p two below (told.places p two below);
  }

  nothing_behind : IsBlankFrom only_own (length (spell d))
  nothing_behind p from below v = false_from_ne_true (only_own p v) (λ is. absurd (omega (arith, is_inside p v is)))

  begins_call : IsViable (format_of d ∷ format_of d ∷ [])
  begins_call = record {
    call = d;
    rest = ((fields_of d ++ (end_of d ∷ [])) ++ (check_of (covered d) ∷ [])) ++ (end_of d ∷ end_of d ∷ []);
    lawful = told.lawful;
    list = refl;
  }

  not_none : (p : ℕ) → only_own p (format_of d) ≡ true → ShowsNone (only_own p) → ⊥
  not_none p is none = let no = none (format_of d) in absurd (cc)

  answer : IsAnswer only_own (Reported d Absent)
  answer = record {
    head = seen.One (format_of d);
    seen = head_one;
    answers = inr (inr (inr (
      record {
        is_one = (formats (format_of d)).1 begins_call;
        first = λ _. not_none 0 (shows_own 0 (format_of d) refl (omega (arith, long)) refl);
        second = λ _. not_none 1 (shows_own 1 (format_of d) refl (omega (arith, long)) refl);
      },
      inl (record {
        call = d;
        extra = Absent;
        lawful = told.lawful;
        shown = shown;
        follows = record { last = (own_end d).0; own = (own_end d).1; is = nothing_behind };
        answer_is = refl;
      }),
    )));
  }

  module _ (c : Call) (only : ShowsNoOther F (through_check c)) where
    one_format : format_of d ≡ format_of c
    one_format = elim (or_cases (F 0 (format_of d)) (F 1 (format_of d)) told.head) [
      | inl first ↦ only 0 (format_of d) (omega arith) first
      | inr second ↦ only 1 (format_of d) (omega arith) second
    ]

    no_other : ShowsNoOther only_own (through_check c)
    no_other zero v below is = is_own 0 v is ∙ one_format
    no_other (suc zero) v below is = is_own 1 v is ∙ one_format
    no_other (suc (suc p)) v below is = elim (or_cases (nat_lt (suc (suc p)) 2) (F (suc (suc p)) v) (has_own (suc (suc p)) v is)) [
      | inl low ↦ absurd (omega (arith, ltb-true (suc (suc p)) 2 low))
      | inr was ↦ only (suc (suc p)) v below was
    ]

    same_call : (G : Facts) → IsCallOrMissing G c (Reported d Absent) → d ≡ c
    same_call G (inl is) = let same = is.answer_is in cc
    same_call G (inr is) = let no = is.answer_is in absurd (cc)

    pub sent_call : CallOrMissing → IsCall c → d ≡ c
    sent_call law lawful = same_call only_own (law only_own c (Reported d Absent) lawful no_other answer)

-- two ends follow the error check character
pub spelled_long : (c : Call) → length (spell c) ≡ length (through_check c) + 2
spelled_long c = omega (arith, length_push (through_check c ++ end_of c ∷ []) (end_of c), length_push (through_check c) (end_of c), ap length (append_assoc (through_check c) (end_of c ∷ []) (end_of c ∷ [])))
