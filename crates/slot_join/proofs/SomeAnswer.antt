-- No set of facts lacks an answer.
use Rattle.std.proofs.Common.{◌≡◌, ℕ, zero, suc, ◌+◌, ◌-◌, ◌<◌, ◌≤◌, Bool, true, false, List, [], ◌∷◌, ◌++◌, length, drop, ◌⊎◌, inl, inr, refl, sym, ◌∙◌, ap, arith, length-append}
use Rattle.std.proofs.lemmas.Bool.{cases_lt, false≢true, or_cases}
use Rattle.dsc_symbols.specs.Formats.{IsFormat}
use Rattle.call_values.specs.declared.calls.Call.{Call}
use Rattle.call_values.specs.declared.calls.Call.TheVariants as form
use Rattle.call_values.specs.declared.choices.End.{End}
use Rattle.call_values.specs.declared.choices.End.TheVariants as end
use Rattle.call_values.specs.declared.parts.Kind.TheVariants as kind
use Rattle.call_values.specs.Calls.{IsCall}
use Rattle.call_grammar.specs.Spelling.{spell, through_check, end_of, end_symbol, end_named, check_of}
use Rattle.call_grammar.specs.Walk.{IsViable, IsAtCheck}
use Rattle.expansion.specs.declared.parts.PartKind.TheVariants.{LeftOut, NoInformation}
use Rattle.expansion.specs.declared.values.Sets.{Sets}
use Rattle.expansion.specs.Expansions.{IsExpansion}
use Rattle.expansion.specs.Spelling.{spell as spell_sets, through_check as sets_through_check}
use Rattle.expansion.specs.Reading.{IsViable as BeginsSets}
use Rattle.slot_evidence.specs.declared.places.Seen.{Seen}
use Rattle.slot_evidence.specs.declared.places.Seen.TheVariants as seen
use Rattle.slot_evidence.specs.Facts.{Facts, Symbols}
use Rattle.slot_evidence.specs.Seen.{IsSeen, ShowsNone, ShowsOne}
use Rattle.slot_join.specs.declared.joined.Joined.{Joined}
use Rattle.slot_join.specs.declared.joined.Joined.TheVariants.{Reported, Missing, Differ, Outside, Check}
use Rattle.slot_join.specs.declared.joined.Extra.{Extra}
use Rattle.slot_join.specs.declared.joined.Extra.TheVariants.{Absent, Whole, Broken}
use Rattle.slot_join.specs.Shown.{head_of, IsShown, IsShownLate}
use Rattle.slot_join.specs.Extra.{IsBlankFrom, IsShownFrom, Follows}
use Rattle.slot_join.specs.Answer.{StopsWith, IsReported, IsStopped, needs_both, HasFormat, BehindFormat, BehindHead, IsAnswer}

-- ---- what isn't lacking

-- it can't be that there is none
abbrev pub IsThere : Type 0 → Type 0
IsThere A = (A → ⊥) → ⊥

-- each statement holds or doesn't
pub either_way : (A : Type 0) → IsThere (A ⊎ (A → ⊥))
either_way A k = k (inr (λ a. k (inl a)))

-- of bounded lists one is the longest
module _ (Q : List ℕ → Type 0) (bound : ℕ) (within : (l : List ℕ) → Q l → length l ≤ bound) where
  abbrev Longest : Type 0
  Longest = (l : List ℕ) × Q l × ((other : List ℕ) → Q other → length other ≤ length l)

  longest_by : (d : ℕ) (l : List ℕ) → Q l → bound ≤ length l + d → IsThere Longest
  longest_by zero l q e k = k (l, q, λ other r. let few = within other r in omega (arith, few, e))
  longest_by (suc d) l q e k =
      either_way ((other : List ℕ) × Q other × (length l < length other)) (λ c. elim c [
        | inl o ↦ longest_by d o.0 o.1 (let more = o.2 in omega (arith, e, more)) k
        | inr none ↦ k (
          l,
          q,
          λ other r. elim (cases_lt (length l) (length other)) [
            | inl more ↦ absurd (none (other, r, more))
            | inr few ↦ few
          ],
        )
      ])

  pub longest_there : (l : List ℕ) → Q l → IsThere Longest
  longest_there l q = longest_by bound l q (omega arith)

-- of bounded numbers one is the greatest
module _ (P : ℕ → Type 0) (bound : ℕ) (within : (n : ℕ) → P n → n ≤ bound) where
  abbrev Greatest : Type 0
  Greatest = (n : ℕ) × P n × ((m : ℕ) → P m → m ≤ n)

  greatest_by : (d n : ℕ) → P n → bound ≤ n + d → IsThere Greatest
  greatest_by zero n q e k = k (n, q, λ m r. let few = within m r in omega (arith, few, e))
  greatest_by (suc d) n q e k =
      either_way ((m : ℕ) × P m × (n < m)) (λ c. elim c [
        | inl o ↦ greatest_by d o.0 o.1 (let more = o.2 in omega (arith, e, more)) k
        | inr none ↦ k (
          n,
          q,
          λ m r. elim (cases_lt n m) [
            | inl more ↦ absurd (none (m, r, more))
            | inr few ↦ few
          ],
        )
      ])

  pub greatest_there : (n : ℕ) → P n → IsThere Greatest
  greatest_there n q = greatest_by bound n q (omega arith)

-- ---- what a place showed

false_of : (b : Bool) → (b ≡ true → ⊥) → b ≡ false
false_of true h = absurd (h refl)
false_of false h = refl

module _ (S : Symbols) (small : (v : ℕ) → S v ≡ true → v < 128) where
  -- how far a symbol is below 128
  abbrev IsBelow : ℕ → Type 0
  IsBelow n = (v : ℕ) × (v + n ≡ 128) × (S v ≡ true)

  seen_by_ends : (g : ℕ) → S g ≡ true → ((m : ℕ) → S m ≡ true → m ≤ g) → (l : ℕ) → S l ≡ true → ((m : ℕ) → S m ≡ true → l ≤ m) → (x : Seen) × IsSeen S x
  seen_by_ends g has_g most l has_l least =
      elim (cases_lt l g) [
        | inl apart ↦ (seen.Differ l g, record { has_least = has_l; has_greatest = has_g; apart = apart; between = λ w h. (least w h, most w h) })
        | inr same ↦ (seen.One g, (has_g, λ w h. let a = least w h in let b = most w h in omega (arith, a, b, same)))
      ]

  far_below : (n m : ℕ) (least : IsBelow n) → ((k : ℕ) → IsBelow k → k ≤ n) → S m ≡ true → least.0 ≤ m
  far_below n m least most h =
      let few = small m h in
      let far = most (128 - m) (m, omega (arith, few), h) in
      let at = least.1 in
      omega (arith, few, far, at)

  below_bound : (n : ℕ) → IsBelow n → n ≤ 128
  below_bound n h = let at = h.1 in omega (arith, at)

  small_bound : (n : ℕ) → S n ≡ true → n ≤ 128
  small_bound n h = let few = small n h in omega (arith, few)

  some_seen : (v : ℕ) → S v ≡ true → IsThere ((x : Seen) × IsSeen S x)
  some_seen v h k =
      let few = small v h in
      greatest_there (λ (n : ℕ). S n ≡ true) 128 small_bound v h (λ g.
      greatest_there IsBelow 128 below_bound (128 - v) (v, omega (arith, few), h) (λ l.
      k (seen_by_ends g.0 g.1 g.2 l.1.0 l.1.2 (λ m has. far_below l.0 m l.1 l.2 has))))

  pub seen_there : IsThere ((x : Seen) × IsSeen S x)
  seen_there k =
      either_way ((v : ℕ) × (S v ≡ true)) (λ c. elim c [
        | inl some ↦ some_seen some.0 some.1 k
        | inr none ↦ k (seen.None, λ v. false_of (S v) (λ h. none (v, h)))
      ])

-- ---- what follows a call

own_end : (call : Call) → end_symbol (end_named (end_of call)) ≡ end_of call
own_end (form.Alert casualty) = refl
own_end (form.Ack from casualty) = refl
own_end (form.Relay to from casualty true) = refl
own_end (form.Relay to from casualty false) = refl
own_end (form.RelayAck to from casualty) = refl
own_end (form.AllShips category from first second f1 f2) = refl
own_end (form.AreaCall area category from first second f1 f2) = refl
own_end (form.GroupCall group category from first second f1 f2) = refl
own_end (form.Individual to category from first second message end.Ask) = refl
own_end (form.Individual to category from first second message end.Reply) = refl
own_end (form.Individual to category from first second message end.Plain) = refl
own_end (form.Service to category from (kind.Test true)) = refl
own_end (form.Service to category from (kind.Test false)) = refl
own_end (form.Service to category from kind.AskPosition) = refl
own_end (form.Service to category from (kind.Position position time)) = refl

-- the laws of calls and of expansions
pub record Laws : Type 0 where
  pub formats : (f : ℕ) → IsFormat f → IsViable (f ∷ f ∷ [])
  pub calls : (c : Call) → IsCall c → length (spell c) ≤ 32
  pub sets : (x : Sets) (e : End) → IsExpansion x → length (spell_sets x e) ≤ 15

some_sets : Sets
some_sets = record { enhanced = LeftOut; speed = NoInformation; course = LeftOut }

sets_lawful : IsExpansion some_sets
unfolding some_sets
sets_lawful = record { some = inr (inl tt); enhanced = tt; speed = tt; course = tt }

front_few : (whole l rest : List ℕ) (most : ℕ) → whole ≡ l ++ rest → length whole ≤ most → length l ≤ most
front_few whole l rest most e few = omega (arith, ap length e, length-append l rest, few)

module _ (laws : Laws) (F : Facts) where
  module _ (call : Call) where
    abbrev last : End
    last = end_named (end_of call)

    abbrev from : ℕ
    from = length (spell call)

    abbrev Goes : List ℕ → Type 0
    Goes l = IsShownFrom F from l × BeginsSets last l

    goes_few : (l : List ℕ) → Goes l → length l ≤ 15
    goes_few l h = front_few (spell_sets h.1.expansion last) l h.1.rest 15 h.1.list (laws.sets h.1.expansion last h.1.lawful)

    goes_none : Goes []
    goes_none = (λ k inside. absurd (omega (arith, inside)), record { expansion = some_sets; rest = spell_sets some_sets last; lawful = sets_lawful; list = refl })

    pub follows_there : IsThere ((extra : Extra) × Follows F call extra)
    follows_there k =
        either_way (IsBlankFrom F from) (λ c. elim c [
          | inl blank ↦ k (Absent, record { last = last; own = own_end call; is = blank })
          | inr some ↦ either_way ((x : Sets) × IsExpansion x × IsShownFrom F from (sets_through_check x last)) (λ d. elim d [
            | inl x ↦ k (Whole x.0, record { last = last; own = own_end call; is = (x.1, x.2) })
            | inr unfinished ↦ longest_there Goes 15 goes_few [] goes_none (λ m. k (
              Broken (from + length m.0),
              record {
                last = last;
                own = own_end call;
                is = record {
                  some = some;
                  unfinished = λ x lawful shown. unfinished (x, lawful, shown);
                  list = m.0;
                  longest = record { shown = m.1.0; viable = m.1.1; longest = λ other a b. m.2 other (a, b) };
                  place = refl;
                };
              },
            ))
          ])
        ])

  module _ (small : (p v : ℕ) → F p v ≡ true → v < 128) where
    -- ---- where no call is shown

    stops_there : (list : List ℕ) (here : Seen) → IsThere ((answer : Joined) × StopsWith F list here answer)
    stops_there list seen.None k = k (Missing (length list), refl)
    stops_there list (seen.Differ least greatest) k = k (Differ (length list) least greatest, refl)
    stops_there list (seen.One v) k =
        either_way (IsShownLate F list) (λ c. elim c [
          | inl late ↦ k (Missing (length list - 1), inl (late, refl))
          | inr early ↦ either_way (IsAtCheck list) (λ d. elim d [
            | inl check ↦ k (Check (length list) (check_of (drop 1 list)) v, inr (inl (early, check, refl)))
            | inr other ↦ k (Outside (length list) v, inr (inr (early, other, refl)))
          ])
        ])

    abbrev IsGoing : List ℕ → Type 0
    IsGoing l = IsShown F l × IsViable l

    going_few : (l : List ℕ) → IsGoing l → length l ≤ 32
    going_few l h = front_few (spell h.1.call) l h.1.rest 32 h.1.list (laws.calls h.1.call h.1.lawful)

    module _ (format : ℕ) (is : IsFormat format) (head : ShowsOne (head_of F) format) where
      going_format : IsGoing (format ∷ format ∷ [])
      going_format = (
        record { format = format; rest = []; begins = refl; head = head; places = λ p two inside. absurd (omega (arith, two, inside)) },
        laws.formats format is,
      )

      stopped_there : ((call : Call) → IsCall call → IsShown F (through_check call) → ⊥) → IsThere ((answer : Joined) × IsStopped F answer)
      stopped_there unreported k =
          longest_there IsGoing 32 going_few (format ∷ format ∷ []) going_format (λ m.
          seen_there (F (length m.0)) (small (length m.0)) (λ here.
          stops_there m.0 here.0 (λ answer. k (
            answer.0,
            record {
              list = m.0;
              unreported = unreported;
              longest = record { shown = m.1.0; viable = m.1.1; longest = λ other a b. m.2 other (a, b) };
              here = here.0;
              seen = here.1;
              stops = answer.1;
            },
          ))))

      -- a call is shown, or none is
      walked_there : IsThere ((answer : Joined) × (IsReported F answer ⊎ IsStopped F answer))
      walked_there k =
          either_way ((call : Call) × IsCall call × IsShown F (through_check call)) (λ c. elim c [
            | inl shown ↦ follows_there shown.0 (λ extra. k (
              Reported shown.0 extra.0,
              inl (record {
                call = shown.0;
                extra = extra.0;
                lawful = shown.1;
                shown = shown.2;
                follows = extra.1;
                answer_is = refl;
              }),
            ))
            | inr none ↦ stopped_there (λ call lawful shown. none (call, lawful, shown)) (λ answer. k (answer.0, inr answer.1))
          ])

      abbrev Behind : Type 0
      Behind = (answer : Joined) × BehindFormat F format answer

      walked : HasFormat F format → IsThere Behind
      walked has k = walked_there (λ answer. k (answer.0, inr (inr (inr (has, answer.1)))))

      both_there : needs_both format ≡ true → IsThere Behind
      both_there both k =
          either_way (ShowsNone (F 0)) (λ c. elim c [
            | inl first ↦ k (Missing 0, inr (inl (is, both, first, refl)))
            | inr first ↦ either_way (ShowsNone (F 1)) (λ d. elim d [
              | inl second ↦ k (Missing 1, inr (inr (inl (is, both, first, second, refl))))
              | inr second ↦ walked (record { is_one = is; first = λ _. first; second = λ _. second }) k
            ])
          ])

      by_both : (b : Bool) → needs_both format ≡ b → IsThere Behind
      by_both true e = both_there e
      by_both false e = walked (record { is_one = is; first = λ h. absurd (false≢true (sym e ∙ h)); second = λ h. absurd (false≢true (sym e ∙ h)) })

    format_there : (format : ℕ) → ShowsOne (head_of F) format → IsThere ((answer : Joined) × BehindFormat F format answer)
    format_there format head k =
        either_way (IsFormat format) (λ c. elim c [
          | inl is ↦ by_both format is head (needs_both format) refl k
          | inr other ↦ k (Outside 0 format, inl (other, refl))
        ])

    head_there : (head : Seen) → IsSeen (head_of F) head → IsThere ((answer : Joined) × BehindHead F head answer)
    head_there seen.None is k = k (Missing 0, refl)
    head_there (seen.Differ least greatest) is k = k (Differ 0 least greatest, refl)
    head_there (seen.One format) is k = format_there format is k

    small_head : (v : ℕ) → head_of F v ≡ true → v < 128
    small_head v h = elim (or_cases (F 0 v) (F 1 v) h) [ inl a ↦ small 0 v a | inr b ↦ small 1 v b ]

    pub answer_there : IsThere ((answer : Joined) × IsAnswer F answer)
    answer_there k =
        seen_there (head_of F) small_head (λ head.
        head_there head.0 head.1 (λ answer. k (answer.0, record { head = head.0; seen = head.1; answers = answer.1 })))
