use Rattle.std.proofs.Common.{◌≡◌, ℕ, ◌+◌, Bool, true, false, ◌&&◌, ◌||◌, cond, nat_le, bit_and, arith}
use Rattle.std.proofs.lemmas.Bool.Decides.{nat_tests}
use Rattle.phasing.proofs.BitTests.{and_marks, or_marks, same_marks}
use Rattle.phasing.proofs.counting.Count.add.Goals as goal

one_more : (n : ℕ) (x : Bool) → (nat_le 1 n || x) ≡ nat_le 1 (n + cond x 1 0)
one_more n true = grind (arith, nat_tests)
one_more n false = grind (arith, nat_tests)

two_more : (n : ℕ) (x : Bool) → (nat_le 2 n || (nat_le 1 n && x)) ≡ nat_le 2 (n + cond x 1 0)
two_more n true = grind (arith, nat_tests)
two_more n false = grind (arith, nat_tests)

three_more : (n : ℕ) (x : Bool) → (nat_le 3 n || (nat_le 2 n && x)) ≡ nat_le 3 (n + cond x 1 0)
three_more n true = grind (arith, nat_tests)
three_more n false = grind (arith, nat_tests)

pub returns : goal.returns
returns c = λ base number f h right.
    let one = λ (p : ℕ). nat_le 1 (number p) in
    let two = λ (p : ℕ). nat_le 2 (number p) in
    let three = λ (p : ℕ). nat_le 3 (number p) in
    record {
      one = same_marks _ base _ _ (λ p. one_more (number p) (f p)) (or_marks c.args.self.one c.args.right base one f h.one right);
      two = same_marks _ base _ _ (λ p. two_more (number p) (f p)) (or_marks c.args.self.two (bit_and c.args.self.one c.args.right) base two (λ p. one p && f p) h.two (and_marks c.args.self.one c.args.right base one f h.one right));
      three = same_marks _ base _ _ (λ p. three_more (number p) (f p)) (or_marks c.args.self.three (bit_and c.args.self.two c.args.right) base three (λ p. two p && f p) h.three (and_marks c.args.self.two c.args.right base two f h.two right));
    }
