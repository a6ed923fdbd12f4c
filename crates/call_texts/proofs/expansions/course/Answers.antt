use Rattle.std.proofs.Common.{refl, sym, ◌∙◌, ap}
use Rattle.line_grammar.specs.Grammar.{finish}
use Rattle.line_grammar.specs.inside.Reading.{read}
use Rattle.call_texts.specs.CallGrammar as grammar
use Rattle.call_texts.specs.inside.Expansions as inside
use Rattle.call_texts.proofs.ExpansionSteps.{ended_read}
use Rattle.line_grammar.proofs.SectionSteps.{whole, no_tail, leaves_form}
use Rattle.call_texts.proofs.expansions.course.Goals as goal

pub returns-in_err-end-clause-reads : goal.returns-in_err-end-clause-reads
returns-in_err-end-clause-reads c =
    leaves_form (grammar.course finish) (λ p. p) inside.course _ _ _ _ c.new-line.ensures c.from_residual-in_err-end.ensures.1
    (no_tail grammar.course finish _ _ _ _ _ c.in_ok-course.ensures.reads refl (ended_read _ _ c.in_err-end.ensures.left))

pub returns-clause-reads : goal.returns-clause-reads
returns-clause-reads c = (
  _,
  ap (read (grammar.course finish)) (sym c.new-line.ensures)
      ∙ whole grammar.course finish (inside.set_part 4 c.in_ok-course.course) _ _ _ _ c.in_ok-course.ensures.reads refl (ended_read _ _ c.in_ok-end.ensures.end),
  refl,
)
