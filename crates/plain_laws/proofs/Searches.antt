-- what a search finds among numbers in a row
use Rattle.std.proofs.Common.{◌≡◌, ℕ, zero, suc, ◌+◌, ◌<◌, ◌≤◌, Bool, true, false, cond, find, Option, Some, None, inl, inr, refl, arith, ap, sym, ◌∙◌}
use Rattle.std.proofs.lemmas.Bool.{cases_lt}
use Rattle.std.specs.List.{range_with_len}

-- the least number from a on, among n, that passes
pub record IsLeast (p : ℕ → Bool) (a n q : ℕ) : Type 0 where
  pub passes : p q ≡ true
  pub from : a ≤ q
  pub within : q < a + n
  pub least : (k : ℕ) → a ≤ k → k < q → p k ≡ false

least_more : (p : ℕ → Bool) (a n q : ℕ) → p a ≡ false → IsLeast p (a + 1) n q → IsLeast p a (suc n) q
least_more p a n q here later = record {
  passes = later.passes;
  from = omega (arith, later.from);
  within = omega (arith, later.within);
  least =
      λ k low below.
      elim (cases_lt a k) [
        | inl past ↦ later.least k (omega arith) below
        | inr same ↦ let at : k ≡ a = omega arith in ap p at ∙ here
      ];
}

find_step : (p : ℕ → Bool) (a n q : ℕ) (b : Bool) → p a ≡ b → ((later : find p (range_with_len (a + 1) n) ≡ Some q) → IsLeast p (a + 1) n q) → cond b (Some a) (find p (range_with_len (a + 1) n)) ≡ Some q → IsLeast p a (suc n) q
find_step p a n q true here rest h =
    let at : a ≡ q = cc in
    record {
      passes = ap p (sym at) ∙ here;
      from = omega arith;
      within = omega arith;
      least = λ k low below. absurd (omega arith);
    }
find_step p a n q false here rest h = least_more p a n q here (rest h)

-- what is found is the least that passes
pub find_least : (p : ℕ → Bool) (a n q : ℕ) → find p (range_with_len a n) ≡ Some q → IsLeast p a n q
find_least p a zero q h = cc
find_least p a (suc n) q h = find_step p a n q (p a) refl (find_least p (a + 1) n q) h

none_step : (p : ℕ → Bool) (a : ℕ) (b : Bool) (rest : Option ℕ) → p a ≡ b → cond b (Some a) rest ≡ None → (p a ≡ false) × (rest ≡ None)
none_step p a true rest here h = cc
none_step p a false rest here h = (here, h)

-- where nothing is found nothing passes
pub find_none : (p : ℕ → Bool) (a n : ℕ) → find p (range_with_len a n) ≡ None → (k : ℕ) → a ≤ k → k < a + n → p k ≡ false
find_none p a zero h k low high = absurd (omega arith)
find_none p a (suc n) h k low high =
    let parts = none_step p a (p a) (find p (range_with_len (a + 1) n)) refl h in
    elim (cases_lt a k) [
      | inl past ↦ find_none p (a + 1) n parts.1 k (omega arith) (omega arith)
      | inr same ↦ let at : k ≡ a = omega arith in ap p at ∙ parts.0
    ]
