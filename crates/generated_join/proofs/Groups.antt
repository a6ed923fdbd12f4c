-- Which groups the generated lines name, and their facts: those of their own lines.
use Rattle.std.proofs.Common.{◌≡◌, ℕ, ◌+◌, Bool, true, false, ◌&&◌, ◌||◌, ◌==◌, List, [], ◌∷◌, ◌++◌, flat_map, map, refl, sym, ap, ap₂, subst, ◌∙◌, arith}
use Rattle.std.specs.List.{AllByRecursion, list_any, range_with_len}
use Rattle.std.proofs.lemmas.List.Folds.{list_any-append}
use Rattle.std.proofs.lemmas.List.FromFn.{map-range_with_len_more}
use Rattle.std.proofs.lemmas.Bool.{eqb-true, or_right, eq-eqb}
use Rattle.std.proofs.Math.Bool.{or-false}
use Rattle.slot_evidence.specs.Facts.{Facts, no_facts, facts_of, facts_of_all, union}
use Rattle.slot_join.specs.Answer.{IsAnswer}
use Rattle.ten_unit.specs.declared.character.Element.{Element}
use Rattle.input_lines.specs.ReceiverLine.{reception}
use Rattle.join_groups.specs.Groups.{names, is_named, is_among, facts_of_line, group_facts, AreGroups}
use Rattle.join_groups.proofs.PublicLaws.{same_facts, unnamed_facts}
use Rattle.generated_join.specs.Generator.{heard, generated, lines_of_group}
use Rattle.generated_join.specs.Summary.{Answered}
use Rattle.generated_join.proofs.Ranges.{rising_range}

four_or : (b : Bool) → (b || (b || (b || (b || false)))) ≡ b
four_or true = refl
four_or false = refl

-- the lines of a group name it and no other
named_group : (i k : ℕ) → is_named (lines_of_group i) k ≡ (i == k)
unfolding is_named lines_of_group
named_group i k = four_or (i == k)

named_all : (numbers : List ℕ) (k : ℕ) → is_named (flat_map lines_of_group numbers) k ≡ is_among numbers k
unfolding is_named
named_all [] k = refl
named_all (i ∷ numbers) k =
    list_any-append (names k) (lines_of_group i) (flat_map lines_of_group numbers) ∙ ap₂ (λ (a b : Bool). a || b) (named_group i k) (named_all numbers k)

-- the groups of the generated lines are those below their number
pub are_groups : (n : ℕ) → AreGroups (generated n) (range_with_len 0 n)
unfolding generated
are_groups n = record { rising = rising_range 0 n; named = λ k. sym (named_all (range_with_len 0 n) k) }

absorbed : (a b : Bool) → (a || (b && a)) ≡ a
absorbed true b = refl
absorbed false true = refl
absorbed false false = refl

facts_split : (i : ℕ) (numbers : List ℕ) (k p v : ℕ)
    → group_facts (flat_map lines_of_group (i ∷ numbers)) k p v ≡ (group_facts (lines_of_group i) k p v || group_facts (flat_map lines_of_group numbers) k p v)
unfolding group_facts
facts_split i numbers k p v = list_any-append (λ line. facts_of_line k line p v) (lines_of_group i) (flat_map lines_of_group numbers)

-- the facts of a group, where it is one of these, are those of its own lines
facts_all : (numbers : List ℕ) (k p v : ℕ) → group_facts (flat_map lines_of_group numbers) k p v ≡ (is_among numbers k && group_facts (lines_of_group k) k p v)
unfolding group_facts
facts_all [] k p v = refl
facts_all (i ∷ numbers) k p v = facts_split i numbers k p v ∙ by_test (i == k) refl (facts_all numbers k p v)
  where
    by_test : (t : Bool) → (i == k) ≡ t → group_facts (flat_map lines_of_group numbers) k p v ≡ (is_among numbers k && group_facts (lines_of_group k) k p v)
        → (group_facts (lines_of_group i) k p v || group_facts (flat_map lines_of_group numbers) k p v) ≡ ((t || is_among numbers k) && group_facts (lines_of_group k) k p v)
    by_test true is rest =
        ap₂ (λ (n : ℕ) (b : Bool). group_facts (lines_of_group n) k p v || b) (eqb-true i k is) rest ∙ absorbed (group_facts (lines_of_group k) k p v) (is_among numbers k)
    by_test false is rest = ap₂ (λ (a b : Bool). a || b) (unnamed_facts (lines_of_group i) k p v (named_group i k ∙ is)) rest

facts_here : (n k : ℕ) → is_among (range_with_len 0 n) k ≡ true → group_facts (lines_of_group k) k ≡ group_facts (generated n) k
unfolding generated
facts_here n k h =
    same_facts (group_facts (lines_of_group k) k) (group_facts (generated n) k) (λ p v.
    sym (facts_all (range_with_len 0 n) k p v ∙ ap (λ (b : Bool). b && group_facts (lines_of_group k) k p v) h))

-- what answers to the facts of a group's own lines answers to all its facts
pub each_here : (n : ℕ) (all : List Answered) → ((k : ℕ) → is_among (map (λ one. one.group) all) k ≡ true → is_among (range_with_len 0 n) k ≡ true)
    → AllByRecursion (λ one. IsAnswer (group_facts (lines_of_group one.group) one.group) one.answer) all
    → AllByRecursion (λ one. IsAnswer (group_facts (generated n) one.group) one.answer) all
each_here n [] within each = tt
each_here n (one ∷ all) within each =
    let first = ap (λ (b : Bool). b || is_among (map (λ one. one.group) all) one.group) (eq-eqb one.group one.group refl) in (
      subst (λ (F : Facts). IsAnswer F one.answer) (facts_here n one.group (within one.group first)) each.0,
      each_here n all (λ k h. within k (or_right (one.group == k) (is_among (map (λ one. one.group) all) k) h)) each.1,
    )

-- ---- the facts of one group's receptions

-- what the first receivers of a group hear
abbrev pub first_heard : ℕ → ℕ → List (List Element)
first_heard k n = map (heard k) (range_with_len 0 n)

-- one receiver more
pub heard_more : (k n : ℕ) → first_heard k n ++ heard k n ∷ [] ≡ first_heard k (n + 1)
heard_more k n = sym (map-range_with_len_more (heard k) 0 n n (omega arith))

-- receptions of a group show what their lines give of it
shown_by_lines : (k : ℕ) (receivers : List ℕ) (p v : ℕ) → facts_of_all (map (heard k) receivers) p v ≡ group_facts (map (λ j. reception k (heard k j)) receivers) k p v
unfolding facts_of_all group_facts
shown_by_lines k [] p v = refl
shown_by_lines k (j ∷ receivers) p v =
    ap₂ (λ (a b : Bool). a || b) (sym (ap (λ (b : Bool). b && facts_of (heard k j) p v) (eq-eqb k k refl))) (shown_by_lines k receivers p v)

-- nobody heard the group yet
pub none_heard : (k : ℕ) → no_facts ≡ facts_of_all (first_heard k 0)
unfolding facts_of_all
none_heard k = same_facts no_facts (facts_of_all (first_heard k 0)) (λ p v. refl)

-- one receiver more
pub one_more_heard : (k n : ℕ) → union (facts_of_all (first_heard k n)) (facts_of (heard k n)) ≡ facts_of_all (first_heard k (n + 1))
unfolding facts_of_all
one_more_heard k n = same_facts (union (facts_of_all (first_heard k n)) (facts_of (heard k n))) (facts_of_all (first_heard k (n + 1)))
    (λ p v. ap (λ (b : Bool). facts_of_all (first_heard k n) p v || b) (sym (or-false (facts_of (heard k n) p v)))
    ∙ sym (list_any-append (λ e. facts_of e p v) (first_heard k n) (heard k n ∷ []))
    ∙ ap (λ (l : List (List Element)). list_any (λ e. facts_of e p v) l) (heard_more k n))

pub all_shown : (k : ℕ) → facts_of_all (first_heard k 4) ≡ group_facts (lines_of_group k) k
unfolding lines_of_group
all_shown k = same_facts (facts_of_all (first_heard k 4)) (group_facts (lines_of_group k) k) (λ p v. shown_by_lines k (range_with_len 0 4) p v)
