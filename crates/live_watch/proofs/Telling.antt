-- A call that facts report may be told of them.
use Rattle.std.proofs.Common.{◌≡◌, ℕ, ◌+◌, ◌<◌, true, ◌||◌, List, [], ◌∷◌, ◌++◌, Option, Some, None, length, get_or, take, drop, sym, ap, subst, ◌∙◌, inl, inr, append_assoc, arith}
use Rattle.std.proofs.lemmas.Bool.{cases_lt, or_cases, or_left, or_right}
use Rattle.std.proofs.lemmas.List.{take-append-drop, length-take-le, drop_more, get_or_push, length_push}
use Rattle.plain_laws.proofs.Lists.{divide}
use Rattle.call_values.specs.declared.calls.Call.{Call}
use Rattle.call_values.specs.Calls.{IsCall}
use Rattle.call_grammar.specs.Spelling.{up_to_end, through_check, covered, fields_of, format_of, check_of, end_of}
use Rattle.call_grammar.specs.Walk.{IsViable, IsAtEnd, IsAtCheck}
use Rattle.slot_evidence.specs.declared.places.Seen.{Seen}
use Rattle.slot_evidence.specs.declared.places.Seen.TheVariants as seen
use Rattle.slot_evidence.specs.Facts.{Facts}
use Rattle.slot_join.specs.declared.joined.Joined.TheVariants.{Reported}
use Rattle.slot_join.specs.declared.joined.Extra.{Extra}
use Rattle.slot_join.specs.Shown.{head_of, late_of, IsLate, Gives, IsShown}
use Rattle.slot_join.specs.Answer.{IsAnswer, IsReported, StopsAt, StopsWith, BehindFormat, BehindHead}
use Rattle.slot_join.specs.OneCall.{IsEndPlace}
use Rattle.live_watch.specs.Told.{IsReport, IsShownAt, IsTold, IsWatched}

-- up to its first end of sequence no call's list begins another's
abbrev pub OneCheckPlace : Type 0
OneCheckPlace = (c d : Call) (rest : List ℕ) → IsCall c → IsCall d → up_to_end d ≡ up_to_end c ++ rest → (c ≡ d) × (rest ≡ [])

-- where an end of sequence is next, a check follows each symbol with which a call goes on
abbrev pub OneEndPlace : Type 0
OneEndPlace = (l : List ℕ) (x : ℕ) → IsAtEnd l → IsViable (l ++ x ∷ []) → IsAtCheck (l ++ x ∷ [])

-- what comes before the first end of sequence
abbrev pub before_end : Call → List ℕ
before_end c = format_of c ∷ (format_of c ∷ fields_of c)

-- a list begins with one call's up to its end of sequence
one_front : OneCheckPlace → (c d : Call) (r s : List ℕ) → IsCall c → IsCall d → up_to_end c ++ r ≡ up_to_end d ++ s → c ≡ d
one_front law c d r s lc ld e = elim (cases_lt (length (up_to_end c)) (length (up_to_end d))) [
  | inl lt ↦ (law c d (drop (length (up_to_end c)) (up_to_end d)) lc ld (divide (up_to_end c) (up_to_end d) r s e (omega arith))).0
  | inr le ↦ sym (law d c (drop (length (up_to_end d)) (up_to_end c)) ld lc (divide (up_to_end d) (up_to_end c) s r (sym e) le)).0
]

module _ (one : OneCheckPlace) (ends : OneEndPlace) (F : Facts) where
  module _ (c : Call) (lawful : IsCall c) (p : ℕ) (below : p < length (through_check c)) where
    abbrev symbol : ℕ
    symbol = get_or (through_check c) p 0

    abbrev behind : List ℕ
    behind = drop (p + 1) (through_check c)

    whole : through_check c ≡ (take p (through_check c) ++ symbol ∷ []) ++ behind
    whole =
        sym (take-append-drop p (through_check c))
        ∙ ap (λ (x : List ℕ). take p (through_check c) ++ x) (drop_more (through_check c) p 0 below)
        ∙ sym (append_assoc (take p (through_check c)) (symbol ∷ []) behind)

    viable : IsViable (take p (through_check c) ++ symbol ∷ [])
    viable = record {
      call = c;
      rest = behind ++ (end_of c ∷ end_of c ∷ []);
      lawful = lawful;
      list = ap (λ (x : List ℕ). x ++ (end_of c ∷ end_of c ∷ [])) whole ∙ append_assoc (take p (through_check c) ++ symbol ∷ []) behind (end_of c ∷ end_of c ∷ []);
    }

    -- an end of sequence that is late is the call's first
    late_at_end : IsLate F (take p (through_check c)) p symbol → IsEndPlace c p × (late_of F p (end_of c) ≡ true)
    late_at_end late =
        let check : IsAtCheck (take p (through_check c) ++ symbol ∷ []) = ends (take p (through_check c)) symbol late.at_end viable in
        let same : c ≡ check.call = one_front one c check.call (check_of (covered c) ∷ []) behind lawful check.lawful (whole ∙ ap (λ (x : List ℕ). x ++ behind) check.list) in
        let front : take p (through_check c) ++ symbol ∷ [] ≡ up_to_end c = check.list ∙ ap up_to_end (sym same) in
        let long : length (take p (through_check c)) ≡ p = length-take-le p (through_check c) (omega arith) in
        let place : p + 1 ≡ length (up_to_end c) = omega (arith, length_push (take p (through_check c)) symbol, ap length front) in
        let is_end : symbol ≡ end_of c =
        sym (get_or_push (take p (through_check c)) symbol 0 p long) ∙ ap (λ (x : List ℕ). get_or x p 0) front ∙ get_or_push (before_end c) (end_of c) 0 p (omega (arith, length_push (before_end c) (end_of c))) in
        (place, ap (late_of F p) (sym is_end) ∙ late.copies.0)

    given_at : Gives F (take p (through_check c)) p symbol → IsShownAt F c p
    given_at (inl shown) = inl shown.0
    given_at (inr late) = inr (late_at_end late)

  shown_told : (c : Call) → IsCall c → IsShown F (through_check c) → IsTold F c
  shown_told c lawful shown =
      let format : format_of c ≡ shown.format = ap (λ (x : List ℕ). get_or x 0 0) shown.begins in
      record {
        lawful = lawful;
        head = ap (head_of F) format ∙ shown.head.0;
        places = λ p two below. given_at c lawful p below (shown.places p two below);
      }

  module _ (call : Call) (extra : Extra) where
    reported : IsReported F (Reported call extra) → IsTold F call
    reported r =
        let is = r.answer_is in
        let same : r.call ≡ call = cc in
        subst (λ (c : Call). IsTold F c) same (shown_told r.call r.lawful r.shown)

    never_at : (list : List ℕ) (v : ℕ) → StopsAt F list v (Reported call extra) → IsTold F call
    never_at list v (inl is) = let no = is.1 in absurd (cc)
    never_at list v (inr (inl is)) = let no = is.2 in absurd (cc)
    never_at list v (inr (inr is)) = let no = is.2 in absurd (cc)

    never : (list : List ℕ) (here : Seen) → StopsWith F list here (Reported call extra) → IsTold F call
    never list seen.None is = absurd (cc)
    never list (seen.Differ a b) is = absurd (cc)
    never list (seen.One v) is = never_at list v is

    behind_format : (f : ℕ) → BehindFormat F f (Reported call extra) → IsTold F call
    behind_format f (inl is) = let no = is.1 in absurd (cc)
    behind_format f (inr (inl is)) = let no = is.3 in absurd (cc)
    behind_format f (inr (inr (inl is))) = let no = is.4 in absurd (cc)
    behind_format f (inr (inr (inr (has, inl is)))) = reported is
    behind_format f (inr (inr (inr (has, inr is)))) = never is.list is.here is.stops

    behind_head : (h : Seen) → BehindHead F h (Reported call extra) → IsTold F call
    behind_head seen.None is = absurd (cc)
    behind_head (seen.Differ a b) is = absurd (cc)
    behind_head (seen.One f) is = behind_format f is

    pub answered : IsAnswer F (Reported call extra) → IsTold F call
    answered a = behind_head a.head a.answers

-- a call that is reported may be told
pub report_watched : ((G : Facts) (call : Call) (extra : Extra) → IsAnswer G (Reported call extra) → IsTold G call) → (F : Facts) (o : Option Call) → IsReport F o → IsWatched F o
report_watched law F None report = report
report_watched law F (Some call) report = law F call report.0 report.1

-- what is told of facts may be told of more
module _ (F G : Facts) (among : (p v : ℕ) → F p v ≡ true → G p v ≡ true) where
  more_either : (p q v : ℕ) → (F p v || F q v) ≡ true → (G p v || G q v) ≡ true
  more_either p q v is = elim (or_cases (F p v) (F q v) is) [
    | inl first ↦ or_left _ _ (among p v first)
    | inr second ↦ or_right (G p v) _ (among q v second)
  ]

  more_at : (c : Call) (p : ℕ) → IsShownAt F c p → IsShownAt G c p
  more_at c p (inl shown) = inl (among p _ shown)
  more_at c p (inr late) = inr (late.0, more_either (p + 2) (p + 3) (end_of c) late.1)

  pub told_of_more : (c : Call) → IsTold F c → IsTold G c
  told_of_more c told = record {
    lawful = told.lawful;
    head = more_either 0 1 (format_of c) told.head;
    places = λ p two below. more_at c p (told.places p two below);
  }
