use Rattle.std.proofs.Common.{ℕ, ◌∷◌, [], ap₂, ◌∙◌}
use Rattle.line_grammar.proofs.LastDigits.{pair_right}
use Rattle.line_grammar.proofs.pieces.two_digits.Goals as goal

pub returns : goal.returns
returns c = ap₂ (λ (a b : ℕ). a ∷ b ∷ []) c.table_digit.ensures c.table_digit-2.ensures ∙ pair_right c.args.number c.requires
