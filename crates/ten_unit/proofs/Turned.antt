-- Words of two symbols differ in both senses: a finite table of all pairs.
use Rattle.std.proofs.Common.{◌≡◌, ◌⊎◌, ℕ, ◌<◌, Bool, true, false, ◌&&◌, ◌||◌, eqb, arith, refl}
use Rattle.std.proofs.lemmas.Bool.{agree_below, agree_below_at}
use Rattle.std.proofs.lemmas.Bool.Decides.{nat_tests}
use Rattle.ten_unit.specs.declared.character.Element.TheVariants.{Y, B}
use Rattle.ten_unit.specs.Word.{word_of}
use Rattle.ten_unit.specs.Errors.{is_turned, IsOneWay}

-- one symbol, or words with some place where B became Y and some where Y became B
abbrev is_same_or_both_ways : ℕ → ℕ → Bool
is_same_or_both_ways v u = eqb u v || (is_turned B Y (word_of v) (word_of u) && is_turned Y B (word_of v) (word_of u))

all_pairs : agree_below (λ v. agree_below (is_same_or_both_ways v) (λ _. true) 128) (λ _. true) 128 ≡ true
unfolding word_of
all_pairs = refl

each_pair : (v u : ℕ) → v < 128 → u < 128 → is_same_or_both_ways v u ≡ true
each_pair v u v_low u_low =
    agree_below_at (is_same_or_both_ways v) (λ _. true) 128 u (agree_below_at (λ v. agree_below (is_same_or_both_ways v) (λ _. true) 128) (λ _. true) 128 v all_pairs v_low) u_low

same_where_one_sense : (u v : ℕ) (b_to_y y_to_b : Bool) → (eqb u v || (b_to_y && y_to_b)) ≡ true → (b_to_y ≡ false) ⊎ (y_to_b ≡ false) → u ≡ v
same_where_one_sense u v b_to_y y_to_b pair sense = grind (arith, nat_tests)

pub one_way_same : (u v : ℕ) → u < 128 → v < 128 → IsOneWay (word_of v) (word_of u) → u ≡ v
one_way_same u v u_low v_low way =
    same_where_one_sense u v (is_turned B Y (word_of v) (word_of u)) (is_turned Y B (word_of v) (word_of u)) (each_pair v u v_low u_low) way.one_sense
