-- The words that events leave are the ends of what they say.
use Rattle.std.proofs.Common.{◌≡◌, ◌⊎◌, ℕ, suc, ◌≤◌, min, max, Bool, cond, List, [], ◌∷◌, refl, arith, ap, sym, ◌∙◌, subst, ⊎_elim, inl, inr, Contains}
use Rattle.std.proofs.lemmas.Bool.{cases_eq, cases_lt, eq-eqb, ne_eqb}
use Rattle.evidence_board.specs.Views.{Reach, no_reach}
use Rattle.evidence_board.specs.Events.{Event, as_least, as_greatest, word_after, words_behind, words_after, IsLeast, IsPastGreatest, HaveSame}

first_or_later : (e : Event) (es : List Event) (x : Event) → Contains (e ∷ es) x → (e ≡ x) ⊎ Contains es x
first_or_later e es x h = grind arith

later : (e : Event) (es : List Event) (x : Event) → Contains es x → Contains (e ∷ es) x
later e es x (k, below, at) = (suc k, omega arith, at)

no_event : {P : Type 0} (x : Event) → Contains [] x → P
no_event x (k, below, at) = absurd (omega arith)

-- one event, at a place that it speaks of and at another
pub least_here : (p q v : ℕ) (w : Reach) → p ≡ q → word_after p (as_least q v) w ≡ record w { least = min w.least v }
least_here p q v w same = ap (λ (b : Bool). cond b (record w { least = min w.least v }) w) (eq-eqb p q same)

pub least_apart : (p q v : ℕ) (w : Reach) → (p ≡ q → ⊥) → word_after p (as_least q v) w ≡ w
least_apart p q v w apart = ap (λ (b : Bool). cond b (record w { least = min w.least v }) w) (ne_eqb p q apart)

pub greatest_here : (p q v : ℕ) (w : Reach) → p ≡ q → word_after p (as_greatest q v) w ≡ record w { past = max w.past (suc v) }
greatest_here p q v w same = ap (λ (b : Bool). cond b (record w { past = max w.past (suc v) }) w) (eq-eqb p q same)

pub greatest_apart : (p q v : ℕ) (w : Reach) → (p ≡ q → ⊥) → word_after p (as_greatest q v) w ≡ w
greatest_apart p q v w apart = ap (λ (b : Bool). cond b (record w { past = max w.past (suc v) }) w) (ne_eqb p q apart)

-- what one event makes of the least word
record StepsLeast (p : ℕ) (e : Event) (before after : ℕ) : Type 0 where
  lower : after ≤ before
  below : (v : ℕ) → e ≡ as_least p v → after ≤ v
  is_one : (after ≡ before) ⊎ (e ≡ as_least p after)

either_past : (p q v n : ℕ) → p ≡ q → (max n (suc v) ≡ n) ⊎ ((u : ℕ) × (max n (suc v) ≡ suc u) × (as_greatest q v ≡ as_greatest p u))
either_past p q v n same =
    elim (cases_lt n (suc v)) [
      | inl below ↦ inr (v, omega arith, ap (λ (k : ℕ). as_greatest k v) (sym same))
      | inr above ↦ inl (omega arith)
    ]

steps_least : (p : ℕ) (e : Event) (w : Reach) → StepsLeast p e w.least (word_after p e w).least
steps_least p e w = grind arith

-- what events make of the least word
record EndsLeast (p : ℕ) (es : List Event) (before after : ℕ) : Type 0 where
  lower : after ≤ before
  below : (v : ℕ) → Contains es (as_least p v) → after ≤ v
  is_one : (after ≡ before) ⊎ Contains es (as_least p after)

ends_least : (p : ℕ) (es : List Event) (w : Reach) → EndsLeast p es w.least (words_behind p es w).least
ends_least p [] w = record { lower = omega arith; below = λ v held. no_event (as_least p v) held; is_one = inl refl }
ends_least p (e ∷ es) w =
    let one = steps_least p e w in
    let rest = ends_least p es (word_after p e w) in
    let r = (words_behind p es (word_after p e w)).least in
    let low = rest.lower in
    let high = one.lower in record {
      lower = omega arith;
      below = λ v held. ⊎_elim (λ here. let h = one.below v here in omega arith) (rest.below v) (first_or_later e es (as_least p v) held);
      is_one = ⊎_elim
          (λ same. ⊎_elim (λ kept. inl (same ∙ kept)) (λ made. inr (subst (λ (n : ℕ). Contains (e ∷ es) (as_least p n)) (sym same) (0, omega arith, made))) one.is_one)
          (λ held. inr (later e es (as_least p r) held))
          rest.is_one;
    }

-- what one event makes of the greatest word
record StepsPast (p : ℕ) (e : Event) (before after : ℕ) : Type 0 where
  higher : before ≤ after
  above : (v : ℕ) → e ≡ as_greatest p v → suc v ≤ after
  is_one : (after ≡ before) ⊎ ((v : ℕ) × (after ≡ suc v) × (e ≡ as_greatest p v))

steps_past : (p : ℕ) (e : Event) (w : Reach) → StepsPast p e w.past (word_after p e w).past
steps_past p (as_greatest q v) w =
    elim (cases_eq p q) [
      | inl same ↦
          subst (λ (r : Reach). StepsPast p (as_greatest q v) w.past r.past) (sym (greatest_here p q v w same)) record {
            higher = omega arith;
            above = λ u is. let at : v ≡ u = cc in omega arith;
            is_one = either_past p q v w.past same;
          }
      | inr apart ↦
          subst (λ (r : Reach). StepsPast p (as_greatest q v) w.past r.past) (sym (greatest_apart p q v w apart)) record {
            higher = omega arith;
            above = λ u is. let at : q ≡ p = cc in absurd (apart (sym at));
            is_one = inl refl;
          }
    ]
steps_past p (as_least q v) w =
    elim (cases_eq p q) [
      | inl same ↦
          subst (λ (r : Reach). StepsPast p (as_least q v) w.past r.past) (sym (least_here p q v w same)) record {
            higher = omega arith;
            above = λ u is. absurd (cc);
            is_one = inl refl;
          }
      | inr apart ↦
          subst (λ (r : Reach). StepsPast p (as_least q v) w.past r.past) (sym (least_apart p q v w apart)) record {
            higher = omega arith;
            above = λ u is. absurd (cc);
            is_one = inl refl;
          }
    ]

record EndsPast (p : ℕ) (es : List Event) (before after : ℕ) : Type 0 where
  higher : before ≤ after
  above : (v : ℕ) → Contains es (as_greatest p v) → suc v ≤ after
  is_one : (after ≡ before) ⊎ ((v : ℕ) × (after ≡ suc v) × Contains es (as_greatest p v))

ends_past : (p : ℕ) (es : List Event) (w : Reach) → EndsPast p es w.past (words_behind p es w).past
ends_past p [] w = record { higher = omega arith; above = λ v held. no_event (as_greatest p v) held; is_one = inl refl }
ends_past p (e ∷ es) w =
    let one = steps_past p e w in
    let rest = ends_past p es (word_after p e w) in
    let low = rest.higher in
    let high = one.higher in record {
      higher = omega arith;
      above = λ v held. ⊎_elim (λ here. let h = one.above v here in omega arith) (rest.above v) (first_or_later e es (as_greatest p v) held);
      is_one = ⊎_elim
          (λ same. ⊎_elim (λ kept. inl (same ∙ kept)) (λ made. inr (made.0, same ∙ made.1, (0, omega arith, made.2))) one.is_one)
          (λ held. inr (held.0, held.1, later e es (as_greatest p held.0) held.2))
          rest.is_one;
    }

pub is_least : (es : List Event) (p : ℕ) → IsLeast es p (words_after es p).least
is_least es p = let ends = ends_least p es no_reach in record { bound = ends.lower; below = ends.below; is_one = ends.is_one }

pub is_past_greatest : (es : List Event) (p : ℕ) → IsPastGreatest es p (words_after es p).past
is_past_greatest es p = let ends = ends_past p es no_reach in record { above = ends.above; is_one = ends.is_one }

least_no_more : (es fs : List Event) (p a b : ℕ) → ((x : Event) → Contains fs x → Contains es x) → IsLeast es p a → IsLeast fs p b → a ≤ b
least_no_more es fs p a b among one other =
    let bound = one.bound in
    ⊎_elim (λ none. omega arith) (λ held. one.below b (among (as_least p b) held)) other.is_one

past_no_less : (es fs : List Event) (p a b : ℕ) → ((x : Event) → Contains fs x → Contains es x) → IsPastGreatest es p a → IsPastGreatest fs p b → b ≤ a
past_no_less es fs p a b among one other =
    ⊎_elim (λ none. omega arith) (λ held. let is = held.1 in let more = one.above held.0 (among (as_greatest p held.0) held.2) in omega arith) other.is_one

pub ends_alike : (es fs : List Event) → HaveSame es fs → (p : ℕ) → words_after es p ≡ words_after fs p
ends_alike es fs same p =
    let least : (words_after es p).least ≡ (words_after fs p).least =
    omega (arith, least_no_more es fs p _ _ (λ x. (same x).1) (is_least es p) (is_least fs p), least_no_more fs es p _ _ (λ x. (same x).0) (is_least fs p) (is_least es p))
    in
    let past : (words_after es p).past ≡ (words_after fs p).past =
    omega (arith, past_no_less es fs p _ _ (λ x. (same x).1) (is_past_greatest es p) (is_past_greatest fs p), past_no_less fs es p _ _ (λ x. (same x).0) (is_past_greatest fs p) (is_past_greatest es p))
    in
    λ i. record { least = least i; past = past i }
