use Rattle.std.proofs.Common.{ℕ, ◌-◌, refl, sym, ap₂, ◌∙◌}
use Rattle.line_grammar.proofs.Spelled.{spelled_none, spelled_more}
use Rattle.line_grammar.proofs.numerals.digits_of.Goals as goal

pub loop-byte-init : goal.loop-byte-init
loop-byte-init c = spelled_none _

pub loop-byte-preserved : goal.loop-byte-preserved
loop-byte-preserved c =
    spelled_more _ _ _ _ _ c.loop-byte.invariant c.loop-byte-test.true refl (sym c.is_ascii_digit.ensures.value ∙ c.if-not-is_ascii_digit.false) (ap₂ (λ (a b : ℕ). a - b) c.from.ensures c.from-in-loop-byte.ensures)
