use Rattle.std.proofs.Common.{ℕ, zero, suc, ◌+◌, ◌*◌, ◌<◌, [], ◌∷◌, slice_index, arith}
use Rattle.ten_unit.specs.inside.Symbol.{IsSymbol, stretch}
use Rattle.slot_evidence.proofs.slots.six_symbols.Goals as goal

-- what holds of each of six numbers holds of the list's
of_six : (P : ℕ → ℕ → Type 0) (a b c d e f : ℕ) → P 0 a → P 1 b → P 2 c → P 3 d → P 4 e → P 5 f → (k : ℕ) → k < 6 → P k (slice_index (a ∷ b ∷ c ∷ d ∷ e ∷ f ∷ []) k)
of_six P a b c d e f p q r s t u zero below = p
of_six P a b c d e f p q r s t u (suc zero) below = q
of_six P a b c d e f p q r s t u (suc (suc zero)) below = r
of_six P a b c d e f p q r s t u (suc (suc (suc zero))) below = s
of_six P a b c d e f p q r s t u (suc (suc (suc (suc zero)))) below = t
of_six P a b c d e f p q r s t u (suc (suc (suc (suc (suc zero))))) below = u
of_six P a b c d e f p q r s t u (suc (suc (suc (suc (suc (suc k)))))) below = absurd (omega arith)

pub returns : goal.returns
returns c = λ base e planes k below.
    of_six (λ k symbol. IsSymbol (stretch e 10 (base + 10 * k)) symbol) _ _ _ _ _ _ (c.symbol_at.ensures base e planes) (c.symbol_at-2.ensures base e planes) (c.symbol_at-3.ensures base e planes)
    (c.symbol_at-4.ensures base e planes) (c.symbol_at-5.ensures base e planes) (c.symbol_at-6.ensures base e planes) k below
