use Rattle.std.proofs.Common.{◌∙◌, refl, sym, ap}
use Rattle.line_grammar.specs.Grammar.{finish}
use Rattle.line_grammar.specs.Sections.{labelled}
use Rattle.line_grammar.specs.inside.Reading.{read}
use Rattle.line_grammar.proofs.Rows.{leaves_tail, ends, goes_on}
use Rattle.line_grammar.proofs.SectionSteps.{whole, no_tail}
use Rattle.traffic_lines.proofs.rows.to_end.Goals as goal

pub returns-in_err-end : goal.returns-in_err-end
returns-in_err-end g c =
    leaves_tail (labelled c.args.label.now g.T.Token.token finish) _ _ _ _ _ c.new-line.ensures c.from_residual-in_err-end.ensures.1
    (no_tail (labelled c.args.label.now g.T.Token.token) finish _ _ _ _ _ c.in_ok-value.ensures refl (goes_on _ _ c.in_err-end.ensures.left))

pub returns : goal.returns
returns g c =
    ap (read (labelled c.args.label.now g.T.Token.token finish)) (sym c.new-line.ensures)
    ∙ whole (labelled c.args.label.now g.T.Token.token) finish _ _ _ _ _ c.in_ok-value.ensures refl (ends _ c.in_ok-end.ensures.end)
