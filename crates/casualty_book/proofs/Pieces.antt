-- texts that grow piece by piece
use Rattle.std.proofs.Common.{◌≡◌, ℕ, List, ◌++◌, ◌∙◌, ap, append_assoc}

-- what follows a piece that was appended follows the piece
pub regrouped : (old piece new rest : List ℕ) → new ≡ old ++ piece → new ++ rest ≡ old ++ (piece ++ rest)
regrouped old piece new rest e = ap (λ (l : List ℕ). l ++ rest) e ∙ append_assoc old piece rest
