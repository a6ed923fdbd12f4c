use Rattle.line_grammar.proofs.Spelled.{Spelled}
use Rattle.line_grammar.proofs.numerals.digits_of.Given as goal

abbrev pub invariant-loop-byte : goal.invariant-loop-byte
invariant-loop-byte l = Spelled l.front l.byte-index l.number
