-- What a watch answers, and the facts that may be posted on its board.
use Rattle.std.proofs.Common.{◌≡◌, ◌⊎◌, ℕ, zero, suc, ◌<◌, Bool, true, false, cond, ◌||◌, List, [], ◌∷◌, length, set, replicate, Option, Some, None, Contains, refl, sym, ap, subst, ◌∙◌, inl, inr, arith}
use Rattle.std.specs.Prelude.{filter}
use Rattle.std.proofs.lemmas.List.{get_or-set_same, get_or-set_other, length-set, length-replicate}
use Rattle.std.proofs.lemmas.Bool.{cases_eq, eq-eqb, or_cases, or_left, or_right}
use Rattle.std.proofs.Math.Bool.{or_self_left}
use Rattle.ten_unit.specs.declared.character.Element.{Element}
use Rattle.call_values.specs.declared.calls.Call.{Call}
use Rattle.slot_evidence.specs.declared.places.Seen.{Seen}
use Rattle.slot_evidence.specs.declared.places.Seen.TheVariants as seen
use Rattle.slot_evidence.specs.Alike.{AreAlike}
use Rattle.slot_evidence.specs.Facts.{Symbols, Facts, no_facts, facts_of_all, union}
use Rattle.slot_evidence.specs.Seen.{IsLawful, symbols_in}
use Rattle.slot_evidence.specs.Sheet.{IsSheet, IsEnds, seen_at, facts_in}
use Rattle.slot_evidence.specs.Allowed.{IsAllowed, OnlyAllowed}
use Rattle.slot_evidence.proofs.PublicLaws.{IsEnds-same, kept_shown, all_small, blank_at}
use Rattle.slot_join.specs.declared.joined.Joined.{Joined}
use Rattle.slot_join.specs.declared.joined.Joined.TheVariants.{Reported}
use Rattle.slot_join.specs.declared.joined.Extra.{Extra}
use Rattle.slot_join.specs.Answer.{IsAnswer}
use Rattle.evidence_board.specs.Facts.{all_facts}
use Rattle.receiver_pool.specs.Posting.{MayAllBePosted}
use Rattle.live_watch.specs.Told.{IsTold, IsWatched}
use Rattle.live_watch.specs.declared.watchers.News.{News}
use Rattle.live_watch.specs.declared.watchers.News.TheVariants as news
use Rattle.live_watch.specs.Watching.{IsNews}
use Rattle.live_watch.specs.inside.Known.{known_facts, listed_facts, AreAllAllowed}
use Rattle.live_watch.specs.inside.Posted.{IsToldOn, IsUnreported}

-- the laws of facts that are alike
pub record Alike : Type 0 where
  pub answers : (F G : Facts) (answer : Joined) → ((p : ℕ) → AreAlike (F p) (G p)) → IsAnswer F answer → IsAnswer G answer
  pub itself : (S : Symbols) → AreAlike S S
  pub unions : (S T U V : Symbols) → AreAlike S T → AreAlike U V → AreAlike (λ v. S v || U v) (λ v. T v || V v)
  pub sheet : (F : Facts) (sheet : List Seen) (p : ℕ) → IsEnds F sheet → AreAlike (F p) (facts_in sheet p)

-- where a look with the sheet of these facts reports no call, they report none
pub last_unreported : Alike → (sheet : List Seen) (before after : Option Call) (told : News) (F : Facts) → IsEnds F sheet → IsNews sheet before after told → IsUnreported F after
last_unreported laws sheet before after (news.Same call) F ends is = subst (λ (t : Option Call). IsUnreported F t) (sym is.1) tt
last_unreported laws sheet before after (news.New call) F ends is = subst (λ (t : Option Call). IsUnreported F t) (sym is.1) tt
last_unreported laws sheet before after (news.Not joined) F ends is =
    subst (λ (t : Option Call). IsUnreported F t) (sym is.1)
    (λ call extra answer. is.3 call (record { extra = extra; answer = laws.answers F (facts_in sheet) (Reported call extra) (λ p. laws.sheet F sheet p ends) answer }))

-- facts that were posted twice
twice : (F G : Facts) (sheet : List Seen) → IsEnds (union (union no_facts F) (union (union no_facts F) G)) sheet → IsEnds (union F G) sheet
twice F G sheet ends = IsEnds-same _ (union F G) sheet (λ p v. or_self_left (F p v) (G p v)) ends

-- what was posted through two halves of a seat, once they are joined
pub both_posted : (F G : Facts) (begun first second after met : List Seen) → IsEnds (union no_facts F) begun → first ≡ begun → second ≡ begun
    → ((H : Facts) → IsEnds H first → IsEnds (union H G) after) → ((H I : Facts) → IsEnds H second → IsEnds I after → IsEnds (union H I) met) → IsEnds (union F G) met
both_posted F G begun first second after met ends one other posts joins =
    twice F G met
    (joins (union no_facts F) (union (union no_facts F) G)
    (subst (λ (s : List Seen). IsEnds (union no_facts F) s) (sym other) ends)
    (posts (union no_facts F) (subst (λ (s : List Seen). IsEnds (union no_facts F) s) (sym one) ends)))

-- the laws of told calls
pub record Tell : Type 0 where
  pub answered : (F : Facts) (call : Call) (extra : Extra) → IsAnswer F (Reported call extra) → IsTold F call
  pub more : (F G : Facts) (call : Call) → ((p v : ℕ) → F p v ≡ true → G p v ≡ true) → IsTold F call → IsTold G call

module _ (alike : Alike) (tell : Tell) (facts : List (ℕ × ℕ)) (so_far : List Seen) (list : List (List Element)) (known : AreAllAllowed facts (known_facts so_far list)) where
  pub all_may : MayAllBePosted facts list
  all_may p v is = (known p v).1 (or_right (facts_in so_far p v) _ is)

  module _ (F : Facts) (ends : IsEnds F so_far) where
    among : (p v : ℕ) → known_facts so_far list p v ≡ true → union F (facts_of_all list) p v ≡ true
    among p v is = elim (or_cases (facts_in so_far p v) (facts_of_all list p v) is) [
      | inl before ↦ or_left _ _ (kept_shown (F p) (seen_at so_far p) v (ends.each p) before)
      | inr heard ↦ or_right (F p v) _ heard
    ]

    same_answer : (answer : Joined) → IsAnswer (union F (facts_of_all list)) answer → IsAnswer (known_facts so_far list) answer
    same_answer answer is =
        alike.answers (union F (facts_of_all list)) (known_facts so_far list) answer
        (λ p. alike.unions (F p) (facts_in so_far p) (facts_of_all list p) (facts_of_all list p) (alike.sheet F so_far p ends) (alike.itself (facts_of_all list p))) is

    pub watched : (told : Option Call) → IsToldOn facts told → IsUnreported (known_facts so_far list) told → IsWatched (union F (facts_of_all list)) told
    watched None posted unreported = λ call extra is. unreported call extra (same_answer (Reported call extra) is)
    watched (Some call) posted unreported =
        tell.more (facts_in posted.sheet) (union F (facts_of_all list)) call (λ p v is. among p v ((known p v).0 (posted.allowed p v is)))
        (tell.answered (facts_in posted.sheet) call posted.reports.extra posted.reports.answer)

-- the facts that pass a test
module _ (test : ℕ × ℕ → Bool) where
  first_or_later : (e : ℕ × ℕ) (es : List (ℕ × ℕ)) (x : ℕ × ℕ) → Contains (e ∷ es) x → (e ≡ x) ⊎ Contains es x
  first_or_later e es x (zero, below, at) = inl at
  first_or_later e es x (suc k, below, at) = inr (k, omega arith, at)

  later : (e : ℕ × ℕ) (es : List (ℕ × ℕ)) (x : ℕ × ℕ) → Contains es x → Contains (e ∷ es) x
  later e es x (k, below, at) = (suc k, omega arith, at)

  no_element : {P : Type 0} (x : ℕ × ℕ) → Contains [] x → P
  no_element x (k, below, at) = absurd (omega arith)

  passed_more : (b : Bool) (e : ℕ × ℕ) (es : List (ℕ × ℕ)) (x : ℕ × ℕ) → test e ≡ b → test x ≡ true → (e ≡ x) ⊎ Contains es x → Contains (cond b (e ∷ es) es) x
  passed_more true e es x is passes (inl here) = (0, omega arith, here)
  passed_more true e es x is passes (inr held) = later e es x held
  passed_more false e es x is passes (inl here) = let same = ap test here in absurd (cc)
  passed_more false e es x is passes (inr held) = held

  passed : (es : List (ℕ × ℕ)) (x : ℕ × ℕ) → Contains es x → test x ≡ true → Contains (filter test es) x
  passed [] x held passes = no_element x held
  passed (e ∷ es) x held passes = passed_more (test e) e (filter test es) x refl passes (elim (first_or_later e es x held) [
    | inl here ↦ inl here
    | inr other ↦ inr (passed es x other passes)
  ])

  tested_more : (b : Bool) (e : ℕ × ℕ) (es : List (ℕ × ℕ)) (x : ℕ × ℕ) → test e ≡ b → (Contains es x → test x ≡ true) → Contains (cond b (e ∷ es) es) x → test x ≡ true
  tested_more true e es x is rest held = elim (first_or_later e es x held) [
    | inl here ↦ ap test (sym here) ∙ is
    | inr other ↦ rest other
  ]
  tested_more false e es x is rest held = rest held

  tested : (es : List (ℕ × ℕ)) (x : ℕ × ℕ) → Contains (filter test es) x → test x ≡ true
  tested [] x held = no_element x held
  tested (e ∷ es) x held = tested_more (test e) e (filter test es) x refl (tested es x) held

-- every fact with a place and a symbol that there are may be posted where every sheet may
one_fact_sheet : ℕ → ℕ → List Seen
one_fact_sheet p v = set (replicate 64 seen.None) p (seen.One v)

one_there : (p v : ℕ) → p < 64 → seen_at (one_fact_sheet p v) p ≡ seen.One v
unfolding one_fact_sheet
one_there p v place = get_or-set_same (replicate 64 seen.None) p (seen.One v) seen.None (omega (arith, length-replicate 64 seen.None))

one_lawful : (p v q : ℕ) → p < 64 → v < 128 → IsLawful (seen_at (one_fact_sheet p v) q)
unfolding one_fact_sheet
one_lawful p v q place symbol = elim (cases_eq q p) [
  | inl here ↦ subst (λ (k : ℕ). IsLawful (seen_at (set (replicate 64 seen.None) p (seen.One v)) k)) (sym here) (subst IsLawful (sym (get_or-set_same (replicate 64 seen.None) p (seen.One v) seen.None (omega (arith, length-replicate 64 seen.None)))) symbol)
  | inr apart ↦ subst IsLawful (sym (get_or-set_other (replicate 64 seen.None) p q (seen.One v) seen.None apart ∙ blank_at q)) (tt {0})
]

one_long : (p v : ℕ) → length (one_fact_sheet p v) ≡ 64
unfolding one_fact_sheet
one_long p v = length-set (replicate 64 seen.None) p (seen.One v) ∙ length-replicate 64 seen.None

every : ((sheet : List Seen) → IsSheet sheet → OnlyAllowed all_facts sheet) → (p v : ℕ) → p < 64 → v < 128 → IsAllowed all_facts p v
every sheets p v place symbol =
    sheets (one_fact_sheet p v) (record { places = one_long p v; lawful = λ q. one_lawful p v q place symbol }) p v
    (ap (λ (x : Seen). symbols_in x v) (one_there p v place) ∙ eq-eqb v v refl)

-- the facts of a sheet and of receptions are listed, and no others
pub all_listed : ((sheet : List Seen) → IsSheet sheet → OnlyAllowed all_facts sheet)
    → (so_far : List Seen) (list : List (List Element)) → IsSheet so_far → AreAllAllowed (listed_facts (known_facts so_far list)) (known_facts so_far list)
unfolding listed_facts
all_listed sheets so_far list lawful p v = (
  (λ may. tested (λ fact. known_facts so_far list fact.0 fact.1) all_facts (p, v) may.listed),
  (λ is.
      let may : IsAllowed all_facts p v = elim (or_cases (facts_in so_far p v) (facts_of_all list p v) is) [
        | inl before ↦ sheets so_far lawful p v before
        | inr heard ↦ every sheets p v (all_small list p v heard).0 (all_small list p v heard).1
      ]
      in
      record { place = may.place; symbol = may.symbol; listed = passed (λ fact. known_facts so_far list fact.0 fact.1) all_facts (p, v) may.listed is }),
)
