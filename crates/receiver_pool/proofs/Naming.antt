-- The groups that receptions name, each once, in the order in which they are first named.
use Rattle.std.proofs.Common.{◌≡◌, ◌≢◌, ℕ, suc, ◌+◌, ◌%◌, ◌<◌, ◌==◌, Bool, true, false, not, cond, ◌||◌, List, [], ◌∷◌, ◌++◌, length, slice_index, refl, arith, ap, sym, ◌∙◌, inl, inr}
use Rattle.std.specs.List.{filter}
use Rattle.std.proofs.lemmas.Bool.{cases_eq, cases_lt, eq-eqb, ne_eqb}
use Rattle.std.proofs.lemmas.List.{append-nil, get_or_append_left, get_or_push, length-append}
use Rattle.std.proofs.lemmas.List.Elements.{filter-append}
use Rattle.std.proofs.lemmas.List.Folds.{list_any_at}
use Rattle.receiver_pool.specs.declared.group_entries.GroupReception.{GroupReception}
use Rattle.receiver_pool.specs.Groups.{groups_of}
use Rattle.receiver_pool.specs.declared.batch_groups.TheConstants.{NOWHERE, REMEMBERED}
use Rattle.receiver_pool.specs.inside.Numbers.{AreApart, AreRemembered, is_listed, with_group}

-- the groups but one
abbrev others : ℕ → List ℕ → List ℕ
others g groups = filter (λ k. not (g == k)) groups

listed_other : (groups : List ℕ) (g k : ℕ) → g ≢ k → is_listed (others g groups) k ≡ is_listed groups k
listed_other [] g k apart = refl
listed_other (n ∷ groups) g k apart = elim (cases_eq g n) [
  | inl same ↦
      ap (λ (b : Bool). is_listed (cond (not b) (n ∷ others g groups) (others g groups)) k) (eq-eqb g n same)
      ∙ listed_other groups g k apart
      ∙ sym (ap (λ (b : Bool). b || is_listed groups k) (ne_eqb n k (λ e. apart (same ∙ e))))
  | inr other ↦
      ap (λ (b : Bool). is_listed (cond (not b) (n ∷ others g groups) (others g groups)) k) (ne_eqb g n other)
      ∙ ap (λ (b : Bool). n == k || b) (listed_other groups g k apart)
]

filter_with : (p : ℕ → Bool) (groups : List ℕ) (g : ℕ) (b : Bool) → filter p (cond b groups (groups ++ g ∷ [])) ≡ cond b (filter p groups) (filter p groups ++ cond (p g) (g ∷ []) [])
filter_with p groups g true = refl
filter_with p groups g false = filter-append p groups (g ∷ [])

either_same : (b : Bool) (groups : List ℕ) → cond b groups (groups ++ []) ≡ groups
either_same true groups = refl
either_same false groups = append-nil groups

cons_either : (b : Bool) (x g : ℕ) (groups : List ℕ) → ◌≡◌ {A = List ℕ} (x ∷ cond b groups (groups ++ g ∷ [])) (cond b (x ∷ groups) (x ∷ groups ++ g ∷ []))
cons_either true x g groups = refl
cons_either false x g groups = refl

cons_with : (x : ℕ) (groups : List ℕ) (g : ℕ) → ◌≡◌ {A = List ℕ} (x ∷ others x (with_group groups g)) (with_group (x ∷ others x groups) g)
cons_with x groups g =
    let b = is_listed groups g in
    let rest = others x groups in
    elim (cases_eq x g) [
      | inl same ↦
          ap (λ (l : List ℕ). x ∷ l)
          (filter_with (λ k. not (x == k)) groups g b ∙ ap (λ (q : Bool). cond b rest (rest ++ cond (not q) (g ∷ []) [])) (eq-eqb x g same) ∙ either_same b rest)
          ∙ sym (ap (λ (q : Bool). cond (q || is_listed rest g) (x ∷ rest) (x ∷ rest ++ g ∷ [])) (eq-eqb x g same))
      | inr apart ↦
          ap (λ (l : List ℕ). x ∷ l)
          (filter_with (λ k. not (x == k)) groups g b ∙ ap (λ (q : Bool). cond b rest (rest ++ cond (not q) (g ∷ []) [])) (ne_eqb x g apart))
          ∙ cons_either b x g rest
          ∙ sym
          (ap (λ (q : Bool). cond (q || is_listed rest g) (x ∷ rest) (x ∷ rest ++ g ∷ [])) (ne_eqb x g apart)
          ∙ ap (λ (q : Bool). cond q (x ∷ rest) (x ∷ rest ++ g ∷ [])) (listed_other groups x g apart))
    ]

-- one reception more
pub groups_push : (batch : List GroupReception) (heard : GroupReception) → groups_of (batch ++ heard ∷ []) ≡ with_group (groups_of batch) heard.group
groups_push [] heard = refl
groups_push (first ∷ batch) heard = ap (λ (l : List ℕ). first.group ∷ others first.group l) (groups_push batch heard) ∙ cons_with first.group (groups_of batch) heard.group

-- groups stay apart
listed_at : (groups : List ℕ) (g i : ℕ) → i < length groups → slice_index groups i ≡ g → is_listed groups g ≡ true
listed_at groups g i inside is = list_any_at (λ known. known == g) groups i 0 inside (eq-eqb (slice_index groups i) g is)

listed_where : (groups : List ℕ) (g : ℕ) → is_listed groups g ≡ true → (i : ℕ) × (i < length groups) × (slice_index groups i ≡ g)
listed_where [] g is = absurd cc
listed_where (n ∷ groups) g is = elim (cases_eq n g) [
  | inl same ↦ (0, omega arith, same)
  | inr apart ↦ (let rest = listed_where groups g (sym (ap (λ (b : Bool). b || is_listed groups g) (ne_eqb n g apart)) ∙ is) in (suc rest.0, omega (arith, rest.1), rest.2))
]

either_bool : (b : Bool) → (b ≡ true → ⊥) → b ≡ false
either_bool true never = absurd (never refl)
either_bool false never = refl

-- where no group with a remainder is remembered, none is listed
pub none_remembered : (groups remembered : List ℕ) (g : ℕ) → AreRemembered groups remembered → slice_index remembered (g % REMEMBERED) ≡ NOWHERE → is_listed groups g ≡ false
none_remembered groups remembered g are none =
    either_bool (is_listed groups g)
    (λ is. let at = listed_where groups g is in are at.0 at.1 (ap (λ (n : ℕ). slice_index remembered (n % REMEMBERED)) at.2 ∙ none))

none_listed : (groups : List ℕ) (g i : ℕ) → is_listed groups g ≡ false → i < length groups → slice_index groups i ≡ g → ⊥
none_listed groups g i none inside is = absurd (cc (none, listed_at groups g i inside is))

apart_push : (groups : List ℕ) (g : ℕ) → is_listed groups g ≡ false → AreApart groups → AreApart (groups ++ g ∷ [])
apart_push groups g none apart i j inside_i inside_j same =
    let n = length groups in
    let long : length (groups ++ g ∷ []) ≡ n + 1 = length-append groups (g ∷ []) in
    let front : (k : ℕ) → k < n → slice_index (groups ++ g ∷ []) k ≡ slice_index groups k = λ k below. get_or_append_left groups (g ∷ []) 0 k below in
    let last : (k : ℕ) → k ≡ n → slice_index (groups ++ g ∷ []) k ≡ g = λ k here. ap (slice_index (groups ++ g ∷ [])) here ∙ get_or_push groups g 0 n refl in
    elim (cases_lt i n) [
      | inl low ↦ (elim (cases_lt j n) [
        | inl below ↦ apart i j low below (sym (front i low) ∙ same ∙ front j below)
        | inr end ↦ absurd (none_listed groups g i none low (sym (front i low) ∙ same ∙ last j (omega (arith, end, inside_j, long))))
      ])
      | inr high ↦ (elim (cases_lt j n) [
        | inl below ↦ absurd (none_listed groups g j none below (sym (front j below) ∙ sym same ∙ last i (omega (arith, high, inside_i, long))))
        | inr end ↦ omega (arith, high, end, inside_i, inside_j, long)
      ])
    ]

pub apart_with : (groups : List ℕ) (g : ℕ) (b : Bool) → is_listed groups g ≡ b → AreApart groups → AreApart (cond b groups (groups ++ g ∷ []))
apart_with groups g true is apart = apart
apart_with groups g false is apart = apart_push groups g is apart
