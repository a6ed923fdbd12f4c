-- bytes that are no line have one column
use Rattle.std.proofs.Common.{◌≡◌, ℕ, zero, suc, ◌<◌, ◌≤◌, ◌+◌, List, length, take, ◌⊎◌, subst, arith, inl, inr}
use Rattle.std.proofs.lemmas.Bool.{cases_lt}
use Rattle.line_grammar.specs.Columns.{Spelling, Begins, IsColumn}

no_later : {W : Type 0} (L : Spelling W) (bytes : List ℕ) (m n : ℕ) → IsColumn L bytes m → IsColumn L bytes n → m < n → ⊥
no_later L bytes m n h k less =
    let within : n ≤ length bytes + 1 = k.within in
    h.at (omega (arith, less, within)) (k.before m less)

pub one_column : {W : Type 0} (L : Spelling W) (bytes : List ℕ) (m n : ℕ) → IsColumn L bytes m → IsColumn L bytes n → m ≡ n
one_column L bytes m n h k = omega (arith, no_later L bytes m n h k, no_later L bytes n m k h)

-- whatever a language is, bytes that have no column don't lack being a line
module _ {W : Type 0} (L : Spelling W) (bytes : List ℕ) (no_line : (w : W) → L w bytes → ⊥) (no_column : (n : ℕ) → IsColumn L bytes n → ⊥) where
  either_way : (A : Type 0) → ((A ⊎ (A → ⊥)) → ⊥) → ⊥
  either_way A k = k (inr (λ a. k (inl a)))

  -- each front begins a line
  fronts : (n : ℕ) → n ≤ length bytes + 1 → (((k : ℕ) → k < n → Begins L (take k bytes)) → ⊥) → ⊥
  fronts zero few k = k (λ m below. absurd (omega (arith, below)))
  fronts (suc n) few k =
      fronts n (omega (arith, few)) (λ before.
      either_way (Begins L (take n bytes)) (λ c. elim c [
        | inl here ↦ k (λ m below. elim (cases_lt m n) [
          | inl less ↦ before m less
          | inr not_less ↦ (let same : n ≡ m = omega (arith, below, not_less) in subst (λ (i : ℕ). Begins L (take i bytes)) same here)
        ])
        | inr none ↦ no_column n (record { is_none = no_line; before = before; at = λ inside. none; within = omega (arith, few) })
      ]))

  all_fronts : ⊥
  all_fronts =
      fronts (length bytes + 1) (omega arith) (λ before.
      no_column (length bytes + 1) (record { is_none = no_line; before = before; at = λ inside. absurd (omega (arith, inside)); within = omega arith }))

pub line_there : {W : Type 0} (L : Spelling W) (bytes : List ℕ) → ((n : ℕ) → IsColumn L bytes n → ⊥) → ((w : W) → L w bytes → ⊥) → ⊥
line_there L bytes no_column no_line = all_fronts L bytes no_line no_column
