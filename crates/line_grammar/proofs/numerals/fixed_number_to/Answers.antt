use Rattle.std.proofs.Common.{sym, ◌∙◌}
use Rattle.line_grammar.proofs.Spelled.{number_found}
use Rattle.line_grammar.proofs.numerals.fixed_number_to.Goals as goal

pub returns-clause-number : goal.returns-clause-number
returns-clause-number c =
    let found = sym c.has.ensures ∙ c.if-has.true in
    (found, number_found _ _ _ _ _ c.requires.ranges found c.in-Some.ensures)
