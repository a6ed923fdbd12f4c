-- What a look shows.
use Rattle.std.proofs.Common.{◌≡◌, ℕ, zero, suc, ◌<◌, ◌≤◌, true, List, Option, None, Some, length, refl, sym, ap, subst, ◌∙◌, inl, inr, [], ◌∷◌, length-append, arith}
use Rattle.std.proofs.lemmas.Bool.{eq-eqb, or_right}
use Rattle.std.proofs.lemmas.List.{get_or-map}
use Rattle.call_values.specs.declared.calls.Call.{Call}
use Rattle.call_values.specs.Calls.{IsCall}
use Rattle.call_grammar.specs.Spelling.{through_check, end_of, spell}
use Rattle.slot_evidence.specs.declared.places.Seen.{Seen}
use Rattle.slot_evidence.specs.declared.places.Seen.TheVariants as seen
use Rattle.slot_evidence.specs.Facts.{Facts}
use Rattle.slot_evidence.specs.Seen.{symbols_in}
use Rattle.slot_evidence.specs.Sheet.{seen_at, facts_in}
use Rattle.slot_evidence.specs.Allowed.{OnlyAllowed}
use Rattle.slot_evidence.specs.TwoNumbers.{seen_between}
use Rattle.slot_evidence.proofs.PublicLaws.{one_or_differ}
use Rattle.slot_join.specs.declared.joined.Joined.{Joined}
use Rattle.slot_join.specs.declared.joined.Joined.TheVariants.{Reported}
use Rattle.slot_join.specs.declared.joined.Extra.{Extra}
use Rattle.slot_join.specs.Answer.{IsAnswer}
use Rattle.slot_join.specs.OneCall.{AreOneCalls, IsMissing, IsCallOrMissing}
use Rattle.evidence_board.specs.Views.{View, blank, place_at, kept_of, seen_sheet}
use Rattle.evidence_board.specs.Looks.{IsLooked}
use Rattle.live_watch.specs.declared.watchers.News.{News}
use Rattle.live_watch.specs.declared.watchers.News.TheVariants as news
use Rattle.live_watch.specs.Watching.{Reports, IsNews, IsNewsOf, CarriesCall, SawCall}
use Rattle.live_watch.specs.inside.Posted.{IsReportedOn, IsToldOn, call_in, IsFirst}

-- facts have one answer
abbrev pub OneAnswer : Type 0
OneAnswer = (F : Facts) (a b : Joined) → IsAnswer F a → IsAnswer F b → a ≡ b

-- of one call's facts the answer is the call or a missing place
abbrev pub LooksReport : Type 0
LooksReport = (facts : List (ℕ × ℕ)) (call : Call) (tail : List ℕ) (sheet : List Seen) (answer : Joined) → IsCall call → AreOneCalls facts call tail
    → OnlyAllowed facts sheet → IsAnswer (facts_in sheet) answer → IsCallOrMissing (facts_in sheet) call answer

-- the news of an answer, where no call was told before
pub first_news : OneAnswer → (sheet : List Seen) (joined : Joined) (before : Option Call) (told : News) → before ≡ None → IsAnswer (facts_in sheet) joined → IsFirst joined told → IsNews sheet before (call_in told) told
first_news one sheet joined before (news.Same call) untold is first = absurd first
first_news one sheet joined before (news.New call) untold is first = (untold, refl, record { extra = first.0; answer = subst (λ (j : Joined). IsAnswer (facts_in sheet) j) first.1 is })
first_news one sheet joined before (news.Not other) untold is first =
    (untold, refl, subst (λ (j : Joined). IsAnswer (facts_in sheet) j) (sym first.0) is, λ call r. first.1 call r.extra (one (facts_in sheet) joined (Reported call r.extra) is r.answer))

-- news of one call
reported_is : (F : Facts) (call other : Call) (extra : Extra) → IsCallOrMissing F call (Reported other extra) → other ≡ call
reported_is F call other extra (inl is) = let same = is.answer_is in cc
reported_is F call other extra (inr is) = let no = is.answer_is in absurd (cc)

module _ (law : LooksReport) (facts : List (ℕ × ℕ)) (call : Call) (tail : List ℕ) (lawful : IsCall call) (one : AreOneCalls facts call tail) where
  one_reported : (sheet : List Seen) (other : Call) → OnlyAllowed facts sheet → Reports sheet other → other ≡ call
  one_reported sheet other allowed r = reported_is (facts_in sheet) call other r.extra (law facts call tail sheet (Reported other r.extra) lawful one allowed r.answer)

  one_missing : (sheet : List Seen) (joined : Joined) → IsAnswer (facts_in sheet) joined → ((c : Call) → Reports sheet c → ⊥) → IsCallOrMissing (facts_in sheet) call joined → IsMissing (facts_in sheet) call joined
  one_missing sheet joined is never (inl r) = absurd (never call (record { extra = r.extra; answer = subst (λ (j : Joined). IsAnswer (facts_in sheet) j) r.answer_is is }))
  one_missing sheet joined is never (inr missing) = missing

  pub news_of_one : (sheet : List Seen) (before after : Option Call) (told : News) → OnlyAllowed facts sheet → IsToldOn facts before → IsNews sheet before after told → IsNewsOf call sheet told
  news_of_one sheet before after (news.Same c) allowed was is =
      let r : IsReportedOn facts c = subst (λ (b : Option Call). IsToldOn facts b) is.0 was in
      one_reported r.sheet c r.allowed r.reports
  news_of_one sheet before after (news.New c) allowed was is = one_reported sheet c allowed is.2
  news_of_one sheet before after (news.Not joined) allowed was is = one_missing sheet joined is.2 is.3 (law facts call tail sheet joined lawful one allowed is.2)

-- a place of which a symbol was seen shows it
some_kept : (least past : ℕ) → 0 < past → (v : ℕ) × (symbols_in (seen_between least past) v ≡ true)
some_kept least zero none = absurd (omega arith)
some_kept least (suc greatest) some_there =
    (greatest, one_or_differ least greatest (λ x. symbols_in x greatest ≡ true) (λ same. eq-eqb greatest least (sym same)) (λ other. or_right _ _ (eq-eqb greatest greatest refl)))

pub carries : (facts : List (ℕ × ℕ)) (call : Call) (before after : View) (told : News) → length (spell call) ≤ 32 → length after.places ≡ 64
    → ((p : ℕ) → p < 64 → IsLooked facts p (place_at before p) (place_at after p)) → SawCall before call → IsNewsOf call (seen_sheet after) told → CarriesCall call told
carries facts call before after (news.Same c) short size looked saw is = is
carries facts call before after (news.New c) short size looked saw is = is
carries facts call before after (news.Not joined) short size looked saw is =
    let p : ℕ = is.place in
    let few : p < 64 = omega (arith, is.inside, ends_behind) in
    let seen_there : 0 < (place_at after p).seen.past = omega (arith, saw p is.inside, (looked p few).no_less.past) in
    let some_symbol = some_kept (place_at after p).seen.least (place_at after p).seen.past seen_there in
    let kept : seen_at (seen_sheet after) p ≡ kept_of (place_at after p).seen = get_or-map (λ place. kept_of place.seen) after.places p blank seen.None (omega arith) in
    let shown : facts_in (seen_sheet after) p some_symbol.0 ≡ true = ap (λ (x : Seen). symbols_in x some_symbol.0) kept ∙ some_symbol.1 in
    let none = is.blank some_symbol.0 in
    absurd (cc)
  where
    ends_behind : length (through_check call) ≤ length (spell call)
    ends_behind = omega (arith, length-append (through_check call) (end_of call ∷ end_of call ∷ []))

-- a call that was told is told, and where none is told the look reports none
pub news_told : (sheet : List Seen) (before after : Option Call) (told : News) → IsNews sheet before after told → (call : Call) → before ≡ Some call → after ≡ Some call
news_told sheet before after (news.Same other) is call was = is.1 ∙ sym is.0 ∙ was
news_told sheet before after (news.New other) is call was = absurd (cc (is.0, was))
news_told sheet before after (news.Not joined) is call was = absurd (cc (is.0, was))

pub news_untold : (sheet : List Seen) (before after : Option Call) (told : News) → IsNews sheet before after told → after ≡ None → (call : Call) → Reports sheet call → ⊥
news_untold sheet before after (news.Same other) is none = absurd (cc (is.1, none))
news_untold sheet before after (news.New other) is none = absurd (cc (is.1, none))
news_untold sheet before after (news.Not joined) is none = is.3
