use Rattle.line_grammar.proofs.pieces.+append_many_digits.Given as goal

abbrev pub decreases-append_many_digits : goal.decreases-append_many_digits
decreases-append_many_digits g l = l.width
