-- Counting the answers to one group after another.
use Rattle.std.proofs.Common.{◌≡◌, ℕ, suc, ◌+◌, ◌*◌, ◌≤◌, Bool, true, false, cond, ◌&&◌, ◌==◌, List, [], ◌∷◌, ◌++◌, flat_map, length, map, refl, sym, ap, subst, ◌∙◌, arith}
use Rattle.std.specs.Prelude.{count_by}
use Rattle.std.specs.List.{list_all, AllByRecursion, range_with_len}
use Rattle.std.proofs.lemmas.List.{map-append}
use Rattle.std.proofs.lemmas.List.FromFn.{length-range_with_len}
use Rattle.std.proofs.lemmas.List.Sums.{count_by-le-length, sum_by-append, sum_by-cons}
use Rattle.std.proofs.lemmas.Bool.Decides.{nat_tests}
use Rattle.slot_join.specs.declared.joined.Joined.{Joined}
use Rattle.slot_join.specs.Answer.{IsAnswer, is_reported}
use Rattle.join_groups.specs.Groups.{IsRising, is_among, group_facts}
use Rattle.generated_join.specs.declared.summary.Summary.{Summary}
use Rattle.generated_join.specs.Generator.{generated, lines_of_group}
use Rattle.generated_join.specs.Summary.{Answered, IsSummary, is_missing, is_reception}
use Rattle.generated_join.specs.inside.Counted.{HasCounted}
use Rattle.generated_join.proofs.Ranges.{range_more}
use Rattle.generated_join.proofs.Groups.{are_groups, each_here}

zero_more : (k : ℕ) → 0 + k ≡ k
zero_more k = omega arith

-- one more of a list
count_push : {X : Type 0} (p : X → Bool) (xs : List X) (x : X) → count_by p (xs ++ x ∷ []) ≡ count_by p xs + cond (p x) 1 0
count_push p xs x = sum_by-append (λ y. cond (p y) 1 0) xs (x ∷ []) ∙ ap (λ (k : ℕ). count_by p xs + k) (zero_more (cond (p x) 1 0))

each_push : {X : Type 0} (P : X → Type 0) (xs : List X) (x : X) → AllByRecursion P xs → P x → AllByRecursion P (xs ++ x ∷ [])
each_push P [] x each h = (h, tt)
each_push P (y ∷ xs) x each h = (each.0, each_push P xs x each.1 h)

-- one group more was counted
pub counted_more : (n : ℕ) (old new : Summary) (answer : Joined) → HasCounted n old → IsAnswer (group_facts (lines_of_group n) n) answer
    → new.groups ≡ old.groups + 1 → new.receptions ≡ old.receptions + 4 → new.reported ≡ old.reported + cond (is_reported answer) 1 0
    → new.missing ≡ old.missing + cond (is_missing answer) 1 0 → HasCounted (n + 1) new
counted_more n old new answer h is groups receptions reported missing =
    let one : Answered = record { group = n; answer = answer } in record {
      all = h.all ++ one ∷ [];
      are = map-append (λ (one : Answered). one.group) h.all (one ∷ []) ∙ ap (λ (l : List ℕ). l ++ n ∷ []) h.are ∙ sym (range_more n);
      each = each_push (λ (one : Answered). IsAnswer (group_facts (lines_of_group one.group) one.group) one.answer) h.all one h.each is;
      groups = omega (arith, groups, h.groups);
      receptions = omega (arith, receptions, h.receptions);
      reported = reported ∙ ap (λ (k : ℕ). k + cond (is_reported answer) 1 0) h.reported ∙ sym (count_push (λ (one : Answered). is_reported one.answer) h.all one);
      missing = missing ∙ ap (λ (k : ℕ). k + cond (is_missing answer) 1 0) h.missing ∙ sym (count_push (λ (one : Answered). is_missing one.answer) h.all one);
    }

-- there are as many answers as groups
groups_long : (all : List Answered) → length (map (λ (one : Answered). one.group) all) ≡ length all
groups_long [] = refl
groups_long (one ∷ all) = omega (arith, groups_long all)

all_long : (n : ℕ) (summary : Summary) (h : HasCounted n summary) → length h.all ≡ n
all_long n summary h = sym (groups_long h.all) ∙ ap (λ (l : List ℕ). length l) h.are ∙ length-range_with_len 0 n

-- the numbers so far are at most those of groups
pub counted_few : (n : ℕ) (summary : Summary) → HasCounted n summary → (summary.reported ≤ n) × (summary.missing ≤ n)
counted_few n summary h =
    let long = all_long n summary h in (
      omega (arith, h.reported, count_by-le-length (λ (one : Answered). is_reported one.answer) h.all, long),
      omega (arith, h.missing, count_by-le-length (λ (one : Answered). is_missing one.answer) h.all, long),
    )

-- ---- the whole

receptions_of_group : (i : ℕ) → count_by is_reception (lines_of_group i) ≡ 4
unfolding lines_of_group
receptions_of_group i = refl

receptions_all : (numbers : List ℕ) → count_by is_reception (flat_map lines_of_group numbers) ≡ 4 * length numbers
receptions_all [] = refl
receptions_all (i ∷ numbers) =
    omega (arith, sum_by-append (λ line. cond (is_reception line) 1 0) (lines_of_group i) (flat_map lines_of_group numbers), receptions_of_group i, receptions_all numbers)

receptions_are : (n : ℕ) → count_by is_reception (generated n) ≡ 4 * n
unfolding generated
receptions_are n = receptions_all (range_with_len 0 n) ∙ ap (λ (k : ℕ). 4 * k) (length-range_with_len 0 n)

-- what was counted group by group is the summary of all the lines
pub summarised : (n : ℕ) (summary : Summary) → HasCounted n summary → IsSummary (generated n) summary
summarised n summary h = record {
  all = h.all;
  are_groups = record {
    rising = subst IsRising (sym h.are) (are_groups n).rising;
    named = λ k. ap (λ (l : List ℕ). is_among l k) h.are ∙ (are_groups n).named k;
  };
  each = each_here n h.all (λ k is. ap (λ (l : List ℕ). is_among l k) (sym h.are) ∙ is) h.each;
  groups = h.groups ∙ sym (all_long n summary h);
  receptions = h.receptions ∙ sym (receptions_are n);
  reported = h.reported;
  missing = h.missing;
}

-- ---- whether all were reported

differs : (a b : ℕ) → a ≤ b → ((0 + a) == suc b) ≡ false
differs a b few = grind (arith, nat_tests)

both_more : (a b : ℕ) → ((1 + a) == suc b) ≡ (a == b)
both_more a b = by_test (a == b) refl
  where
    by_test : (t : Bool) → (a == b) ≡ t → ((1 + a) == suc b) ≡ t
    by_test true is = grind (arith, nat_tests)
    by_test false is = grind (arith, nat_tests)

pub all_are : {X : Type 0} (p : X → Bool) (xs : List X) → (count_by p xs == length xs) ≡ list_all p xs
all_are p [] = refl
all_are p (x ∷ xs) = by_test (p x) (sum_by-cons (λ y. cond (p y) 1 0) x xs) (count_by-le-length p xs) (all_are p xs)
  where
    by_test : (t : Bool) → count_by p (x ∷ xs) ≡ cond t 1 0 + count_by p xs → count_by p xs ≤ length xs → (count_by p xs == length xs) ≡ list_all p xs
        → (count_by p (x ∷ xs) == length (x ∷ xs)) ≡ (t && list_all p xs)
    by_test true is few rest = ap (λ (k : ℕ). k == length (x ∷ xs)) is ∙ both_more (count_by p xs) (length xs) ∙ rest
    by_test false is few rest = ap (λ (k : ℕ). k == length (x ∷ xs)) is ∙ differs (count_by p xs) (length xs) few
