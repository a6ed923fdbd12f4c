use Rattle.std.proofs.Common.{arith}
use Rattle.line_grammar.proofs.ShapesNumerals.{power_positive}
use Rattle.line_grammar.proofs.numerals.power_of_ten.Goals as goal

pub returns-clause-positive : goal.returns-clause-positive
returns-clause-positive c = let h = power_positive c.args.exponent in omega (arith, h, c.pow.ensures)
