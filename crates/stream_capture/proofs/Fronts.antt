-- what is told of a stream begins with what is told of its front
use Rattle.std.proofs.Common.{◌≡◌, ℕ, zero, suc, ◌+◌, ◌-◌, ◌<◌, ◌≤◌, Bool, true, false, cond, List, [], ◌∷◌, ◌++◌, map, length, refl, sym, ◌∙◌, ap, ap₂, subst, add-zero, append-nil, arith}
use Rattle.std.specs.List.{AllByRecursion, filter, range_with_len}
use Rattle.std.proofs.Math.Path.{fun_ext}
use Rattle.std.proofs.lemmas.List.Elements.{filter-append}
use mathlib.Core.List.{cons-eq-cons}
use Rattle.ten_unit.specs.declared.character.Element.{Element}
use Rattle.phasing.specs.Origin.{is_phased}
use Rattle.slot_evidence.specs.Facts.{Facts}
use Rattle.slot_join.specs.declared.joined.Joined.{Joined}
use Rattle.slot_join.specs.Answer.{IsAnswer}
use Rattle.long_capture.specs.Starts.{starts_below, facts_from}
use Rattle.long_capture.specs.Captures.{decided}
use Rattle.stream_capture.specs.Telling.{AnsweredStart, AreAnsweredStarts}

-- a set of facts has one answer
abbrev pub OneAnswer : Type 0
OneAnswer = (F : Facts) (a b : Joined) → IsAnswer F a → IsAnswer F b → a ≡ b

-- a lead that is decided keeps its facts, and its being a start
pub record Stays : Type 0 where
  pub facts : (e more : List Element) (lead p v : ℕ) → lead + 1450 ≤ length e → facts_from (e ++ more) lead p v ≡ facts_from e lead p v
  pub starts : (e more : List Element) (bound : ℕ) → bound ≤ decided (length e) → starts_below (e ++ more) bound ≡ starts_below e bound

-- ---- the starts below a lead

range_split : (a n m : ℕ) → range_with_len a (n + m) ≡ range_with_len a n ++ range_with_len (a + n) m
range_split a zero m = ap (range_with_len a) (omega arith) ∙ ap (λ (k : ℕ). range_with_len k m) (sym (add-zero a))
range_split a (suc n) m =
    let all : suc n + m ≡ suc (n + m) = omega arith in
    let last : a + 1 + n ≡ a + suc n = omega arith in
    ap (range_with_len a) all
    ∙ ap (λ (l : List ℕ). a ∷ l) (range_split (a + 1) n m)
    ∙ ap (λ (k : ℕ). a ∷ (range_with_len (a + 1) n ++ range_with_len k m)) last

-- the starts from a lead up to a higher one
starts_between : List Element → (low high : ℕ) → List ℕ
starts_between e low high = filter (is_phased e) (range_with_len (0 + low) (high - low))

starts_split : (e : List Element) (low high : ℕ) → low ≤ high → starts_below e high ≡ starts_below e low ++ starts_between e low high
unfolding starts_below starts_between
starts_split e low high rising =
    let sum : high ≡ low + (high - low) = omega (arith, rising) in
    ap (λ (n : ℕ). filter (is_phased e) (range_with_len 0 n)) sum
    ∙ ap (filter (is_phased e)) (range_split 0 low (high - low))
    ∙ filter-append (is_phased e) (range_with_len 0 low) (range_with_len (0 + low) (high - low))

-- these numbers are below a bound
abbrev AreBelow : ℕ → List ℕ → Type 0
AreBelow bound list = AllByRecursion (λ k. k < bound) list

range_below : (bound a n : ℕ) → a + n ≤ bound → AreBelow bound (range_with_len a n)
range_below bound a zero within = tt
range_below bound a (suc n) within = (omega (arith, within), range_below bound (a + 1) n (omega (arith, within)))

filter_below : (bound : ℕ) (test : ℕ → Bool) (list : List ℕ) → AreBelow bound list → AreBelow bound (filter test list)
filter_below bound test [] below = tt
filter_below bound test (k ∷ list) below = chosen (test k) (filter_below bound test list below.1)
  where
    chosen : (b : Bool) → AreBelow bound (filter test list) → AreBelow bound (cond b (k ∷ filter test list) (filter test list))
    chosen true rest = (below.0, rest)
    chosen false rest = rest

starts_are_below : (e : List Element) (bound : ℕ) → AreBelow bound (starts_below e bound)
unfolding starts_below
starts_are_below e bound = filter_below bound (is_phased e) (range_with_len 0 bound) (range_below bound 0 bound (omega arith))

-- ---- their answers

-- each start is told with the answer to its facts
abbrev AreAnswered : List Element → List AnsweredStart → Type 0
AreAnswered e told = AllByRecursion (λ one. IsAnswer (facts_from e one.lead) one.answer) told

answers_stay : Stays → (e more : List Element) (told : List AnsweredStart) → AreBelow (decided (length e)) (map (λ one. one.lead) told)
    → AreAnswered e told → AreAnswered (e ++ more) told
answers_stay stays e more [] below answered = tt
answers_stay stays e more (one ∷ told) below answered =
    let same : facts_from e one.lead ≡ facts_from (e ++ more) one.lead =
    fun_ext (λ p. fun_ext (λ v. sym (stays.facts e more one.lead p v (omega (arith, below.0))))) in
    (subst (λ (F : Facts). IsAnswer F one.answer) same answered.0, answers_stay stays e more told below.1 answered.1)

-- what is told of the decided starts of a stream stays, whatever follows
pub told_stays : Stays → (e more : List Element) (told : List AnsweredStart) → AreAnsweredStarts e (decided (length e)) told → AreAnsweredStarts (e ++ more) (decided (length e)) told
told_stays stays e more told are =
    let bound = decided (length e) in
    record {
      leads = are.leads ∙ sym (stays.starts e more bound (omega arith));
      answers = answers_stay stays e more told (subst (AreBelow bound) (sym are.leads) (starts_are_below e bound)) are.answers;
    }

-- what is told begins with this, and goes on to these leads
pub record GoesOn (whole front : List AnsweredStart) (leads : List ℕ) : Type 0 where
  pub back : List AnsweredStart
  pub list : whole ≡ front ++ back
  pub leads_are : map (λ one. one.lead) back ≡ leads

same_told : {a b : AnsweredStart} → a.lead ≡ b.lead → a.answer ≡ b.answer → a ≡ b
same_told lead answer = ap₂ (λ (l : ℕ) (j : Joined). record { lead = l; answer = j }) lead answer

goes_on : OneAnswer → (e : List Element) (whole front : List AnsweredStart) (leads : List ℕ) → map (λ one. one.lead) whole ≡ map (λ one. one.lead) front ++ leads
    → AreAnswered e whole → AreAnswered e front → GoesOn whole front leads
goes_on law e whole [] leads same x y = record { back = whole; list = refl; leads_are = same }
goes_on law e [] (b ∷ front) leads same x y = absurd cc
goes_on law e (a ∷ whole) (b ∷ front) leads same x y =
    let heads = cons-eq-cons.0 same in
    let rest = goes_on law e whole front leads heads.1 x.1 y.1 in
    let answer = law (facts_from e b.lead) a.answer b.answer (subst (λ (k : ℕ). IsAnswer (facts_from e k) a.answer) heads.0 x.0) y.0 in
    record {
      back = rest.back;
      list = ap (λ (t : AnsweredStart). t ∷ whole) (same_told heads.0 answer) ∙ ap (λ (l : List AnsweredStart). b ∷ l) rest.list;
      leads_are = rest.leads_are;
    }

-- what is told of a stream below a higher lead begins with what is told below a lower one
pub told_goes_on : OneAnswer → (e : List Element) (low high : ℕ) (front whole : List AnsweredStart) → low ≤ high → AreAnsweredStarts e low front → AreAnsweredStarts e high whole
    → (back : List AnsweredStart) × (whole ≡ front ++ back)
told_goes_on law e low high front whole rising x y =
    let leads = y.leads ∙ starts_split e low high rising ∙ ap (λ (l : List ℕ). l ++ starts_between e low high) (sym x.leads) in
    let on = goes_on law e whole front (starts_between e low high) leads y.answers x.answers in
    (on.back, on.list)

none_behind : (back : List AnsweredStart) → map (λ one. one.lead) back ≡ [] → back ≡ []
none_behind [] e = refl
none_behind (one ∷ back) e = absurd cc

-- below a lead one thing is told of a stream
pub one_told : OneAnswer → (e : List Element) (bound : ℕ) (a b : List AnsweredStart) → AreAnsweredStarts e bound a → AreAnsweredStarts e bound b → a ≡ b
one_told law e bound a b x y =
    let on = goes_on law e a b [] (x.leads ∙ sym y.leads ∙ sym (append-nil (map (λ one. one.lead) b))) x.answers y.answers in
    on.list ∙ ap (λ (l : List AnsweredStart). b ++ l) (none_behind on.back on.leads_are) ∙ append-nil b
