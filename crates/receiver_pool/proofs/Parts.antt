-- The facts of the receptions whose turn it is.
use Rattle.std.proofs.Common.{◌≡◌, ℕ, zero, suc, ◌+◌, ◌%◌, ◌<◌, ◌≤◌, ◌==◌, Bool, true, false, ◌&&◌, ◌||◌, nat_le, List, [], length, set, take, slice_index_or, refl, arith, ap, sym, ◌∙◌, subst, inl, inr, add-one}
use Rattle.std.specs.List.{list_any}
use Rattle.std.proofs.lemmas.Bool.{cases_eq, cases_lt, eq-eqb, ne_eqb, lt-ltb, le-ltb, le-leb, lt-leb, and_left, and_right, or_left, and_from}
use Rattle.std.proofs.lemmas.List.{take_all, length-set, get_or-set_same, get_or-set_other}
use Rattle.std.proofs.lemmas.List.Folds.{list_any_more}
use Rattle.std.proofs.Math.Bool.{or-false}
use Rattle.plain_laws.proofs.Tests.{or_false_left}
use Rattle.ten_unit.specs.declared.character.Element.{Element}
use Rattle.slot_evidence.specs.Facts.{Facts, no_facts, facts_of, facts_of_all, union}
use Rattle.slot_evidence.specs.declared.places.Seen.{Seen}
use Rattle.slot_evidence.specs.Sheet.{IsEnds}
use Rattle.slot_evidence.proofs.PublicLaws.{IsEnds-same}
use Rattle.receiver_pool.specs.declared.group_entries.GroupReception.{GroupReception}
use Rattle.receiver_pool.specs.Groups.{facts_of_group, AreSheets}
use Rattle.receiver_pool.specs.inside.Turns.{is_turn, taken, nth, part, nobody, nth_of, group_part}

-- whose turn it is
pub turn_yes : (workers low high index : ℕ) → low ≤ index % workers → index % workers < high → is_turn workers low high index ≡ true
turn_yes workers low high index above below = and_from _ _ (le-leb low (index % workers) above) (lt-ltb (index % workers) high below)

turn_below : (workers low high index : ℕ) → index % workers < low → is_turn workers low high index ≡ false
turn_below workers low high index below = and_left _ _ (lt-leb low (index % workers) below)

turn_above : (workers low high index : ℕ) → high ≤ index % workers → is_turn workers low high index ≡ false
turn_above workers low high index above = and_right (nat_le low (index % workers)) _ (le-ltb (index % workers) high above)

turn_halves : (workers low middle high index : ℕ) → low ≤ middle → middle ≤ high → is_turn workers low high index ≡ (is_turn workers low middle index || is_turn workers middle high index)
turn_halves workers low middle high index left right =
    elim (cases_lt (index % workers) low) [
      | inl below ↦ turn_below workers low high index below ∙ sym (or_false_left _ _ (turn_below workers low middle index below) ∙ turn_below workers middle high index (omega arith))
      | inr above ↦
          elim (cases_lt (index % workers) middle) [
            | inl first ↦ turn_yes workers low high index above (omega arith) ∙ sym (or_left _ _ (turn_yes workers low middle index above first))
            | inr second ↦
                elim (cases_lt (index % workers) high) [
                  | inl inside ↦ turn_yes workers low high index above inside ∙ sym (or_false_left _ _ (turn_above workers low middle index second) ∙ turn_yes workers middle high index second inside)
                  | inr outside ↦ turn_above workers low high index outside ∙ sym (or_false_left _ _ (turn_above workers low middle index second) ∙ turn_above workers middle high index outside)
                ]
          ]
    ]

spread : (a b s t x : Bool) → (a || b || ((s || t) && x)) ≡ (a || (s && x) || (b || (t && x)))
spread true b s t x = refl
spread false true true t true = refl
spread false true true t false = refl
spread false true false t x = refl
spread false false true t true = refl
spread false false true true false = refl
spread false false true false false = refl
spread false false false t x = refl

-- the parts of two halves together
pub part_halves : (workers low middle high : ℕ) (F : ℕ → Facts) (n p v : ℕ) → low ≤ middle → middle ≤ high
    → taken (is_turn workers low high) F n p v ≡ (taken (is_turn workers low middle) F n p v || taken (is_turn workers middle high) F n p v)
part_halves workers low middle high F zero p v left right = refl
part_halves workers low middle high F (suc n) p v left right =
    let x = F n p v in
    let a = taken (is_turn workers low middle) F n p v in
    let b = taken (is_turn workers middle high) F n p v in
    ap (λ (c : Bool). c || (is_turn workers low high n && x)) (part_halves workers low middle high F n p v left right)
    ∙ ap (λ (t : Bool). a || b || (t && x)) (turn_halves workers low middle high n left right)
    ∙ spread a b (is_turn workers low middle n) (is_turn workers middle high n) x

-- the part of all workers is what all receptions show
any_taken : {X : Type 0} (shows : X → Bool) (list : List X) (d : X) (workers : ℕ) (F : ℕ → Facts) (n p v : ℕ) → 0 < workers → n ≤ length list
    → ((k : ℕ) → F k p v ≡ shows (slice_index_or list k d)) → taken (is_turn workers 0 workers) F n p v ≡ list_any shows (take n list)
any_taken shows list d workers F zero p v some_there inside same = refl
any_taken shows list d workers F (suc n) p v some_there inside same =
    ap (λ (c : Bool). c || (is_turn workers 0 workers n && F n p v)) (any_taken shows list d workers F n p v some_there (omega arith) same)
    ∙ ap (λ (t : Bool). list_any shows (take n list) || (t && F n p v)) (turn_yes workers 0 workers n (omega arith) (omega arith))
    ∙ ap (λ (x : Bool). list_any shows (take n list) || x) (same n)
    ∙ sym (ap (λ (k : ℕ). list_any shows (take k list)) (sym (add-one n)) ∙ list_any_more shows list n d (omega arith))

all_taken : {X : Type 0} (shows : X → Bool) (list : List X) (d : X) (workers : ℕ) (F : ℕ → Facts) (p v : ℕ) → 0 < workers
    → ((k : ℕ) → F k p v ≡ shows (slice_index_or list k d)) → taken (is_turn workers 0 workers) F (length list) p v ≡ list_any shows list
all_taken shows list d workers F p v some_there same =
    any_taken shows list d workers F (length list) p v some_there (omega arith) same ∙ ap (list_any shows) (take_all (length list) list (omega arith))

pub part_all : (workers : ℕ) (list : List (List Element)) (p v : ℕ) → 0 < workers → part (is_turn workers 0 workers) list (length list) p v ≡ facts_of_all list p v
unfolding facts_of_all
part_all workers list p v some_there = all_taken (λ e. facts_of e p v) list [] workers (nth list) p v some_there (λ k. refl)

pub groups_all : (workers : ℕ) (batch : List GroupReception) (k p v : ℕ) → 0 < workers → group_part (is_turn workers 0 workers) batch (length batch) k p v ≡ facts_of_group batch k p v
unfolding facts_of_group
groups_all workers batch k p v some_there = all_taken (λ heard. heard.group == k && facts_of heard.reception p v) batch nobody workers (nth_of batch k) p v some_there (λ i. refl)

-- sheets of parts
pub turn_taken : (takes : Bool) (F G : Facts) (sheet : List Seen) → takes ≡ true → IsEnds (union F G) sheet → IsEnds (union F (λ p v. takes && G p v)) sheet
turn_taken takes F G sheet is ends = IsEnds-same _ _ sheet (λ p v. ap (λ (b : Bool). F p v || (b && G p v)) (sym is)) ends

pub one_more : (workers low high index : ℕ) (mine : Bool) (list : List (List Element)) (e : List Element) (sheet : List Seen) → e ≡ slice_index_or list index [] → mine ≡ is_turn workers low high index
    → IsEnds (union (part (is_turn workers low high) list index) (λ p v. mine && facts_of e p v)) sheet
    → IsEnds (part (is_turn workers low high) list (index + 1)) sheet
one_more workers low high index mine list e sheet is turn ends =
    subst (λ (n : ℕ). IsEnds (part (is_turn workers low high) list n) sheet) (sym (add-one index))
    (IsEnds-same _ _ sheet
    (λ p v.
    ap (λ (b : Bool). part (is_turn workers low high) list index p v || (b && facts_of e p v)) turn
    ∙ ap (λ (x : List Element). part (is_turn workers low high) list index p v || (is_turn workers low high index && facts_of x p v)) is)
    ends)

pub fold_twice : (f a b : Bool) → (f || a || (f || b)) ≡ (f || (a || b))
fold_twice true a b = refl
fold_twice false a b = refl

pub halves_joined : (workers low middle high : ℕ) (list : List (List Element)) (F : Facts) (sheet : List Seen) → low ≤ middle → middle ≤ high
    → IsEnds (union (union F (part (is_turn workers low middle) list (length list))) (union F (part (is_turn workers middle high) list (length list)))) sheet
    → IsEnds (union F (part (is_turn workers low high) list (length list))) sheet
halves_joined workers low middle high list F sheet left right ends =
    IsEnds-same _ _ sheet (λ p v. fold_twice (F p v) _ _ ∙ ap (λ (b : Bool). F p v || b) (sym (part_halves workers low middle high (nth list) (length list) p v left right))) ends

pub all_joined : (list : List (List Element)) (sheet : List Seen) → IsEnds (union no_facts (facts_of_all list)) sheet → IsEnds (facts_of_all list) sheet
all_joined list sheet ends = IsEnds-same _ _ sheet (λ p v. refl) ends

pub all_posted : (workers : ℕ) (list : List (List Element)) (F : Facts) (sheet : List Seen) → 0 < workers → IsEnds (union F (part (is_turn workers 0 workers) list (length list))) sheet → IsEnds (union F (facts_of_all list)) sheet
all_posted workers list F sheet some_there ends = IsEnds-same _ _ sheet (λ p v. ap (λ (b : Bool). F p v || b) (part_all workers list p v some_there)) ends

pub all_by_one : (workers : ℕ) (list : List (List Element)) (sheet : List Seen) → 0 < workers → IsEnds (part (is_turn workers 0 workers) list (length list)) sheet → IsEnds (facts_of_all list) sheet
all_by_one workers list sheet some_there ends = IsEnds-same _ _ sheet (λ p v. part_all workers list p v some_there) ends

-- sheets of groups
pub same_sheets : (F G : ℕ → Facts) (sheets : List (List Seen)) (n : ℕ) → ((k p v : ℕ) → F k p v ≡ G k p v) → AreSheets F sheets n → AreSheets G sheets n
same_sheets F G sheets n same are = record { count = are.count; each = λ k below. IsEnds-same (F k) (G k) _ (same k) (are.each k below) }

-- the sheet with one number changed, and the others stay
pub turned_at : (number : ℕ) (F : ℕ → Facts) (G : Facts) (old new : List (List Seen)) (met : List Seen) (n : ℕ) → number < length old → new ≡ set old number met
    → IsEnds (union (F number) G) met → AreSheets F old n → AreSheets (λ k. union (F k) (λ p v. number == k && G p v)) new n
turned_at number F G old new met n inside changed ends are = record {
  count = ap length changed ∙ length-set old number met ∙ are.count;
  each = λ k below. elim (cases_eq k number) [
    | inl here ↦
        subst (λ (s : List Seen). IsEnds (union (F k) (λ p v. number == k && G p v)) s)
        (sym (ap (λ (s : List (List Seen)). slice_index_or s k []) changed ∙ ap (λ (j : ℕ). slice_index_or (set old number met) j []) here ∙ get_or-set_same old number met [] inside))
        (IsEnds-same _ _ met
        (λ p v. ap (λ (b : Bool). F k p v || (b && G p v)) (sym (eq-eqb number k (sym here))))
        (subst (λ (j : ℕ). IsEnds (union (F j) G) met) (sym here) ends))
    | inr apart ↦
        subst (λ (s : List Seen). IsEnds (union (F k) (λ p v. number == k && G p v)) s)
        (sym (ap (λ (s : List (List Seen)). slice_index_or s k []) changed ∙ get_or-set_other old number k met [] apart))
        (IsEnds-same _ _ _
        (λ p v. sym (ap (λ (b : Bool). F k p v || (b && G p v)) (ne_eqb number k (λ e. apart (sym e))) ∙ or-false (F k p v)))
        (are.each k below))
  ];
}

-- it met another
pub met_at : (number : ℕ) (F : ℕ → Facts) (G : Facts) (old new : List (List Seen)) (shown met : List Seen) (n : ℕ) → number < length old → new ≡ set old number met
    → ((F G : Facts) → IsEnds F (slice_index_or old number []) → IsEnds G shown → IsEnds (union F G) met) → IsEnds G shown → AreSheets F old n
    → AreSheets (λ k. union (F k) (λ p v. number == k && G p v)) new n
met_at number F G old new shown met n inside changed meets ends are =
    turned_at number F G old new met n inside changed (meets (F number) G (are.each number (omega (arith, are.count))) ends) are
