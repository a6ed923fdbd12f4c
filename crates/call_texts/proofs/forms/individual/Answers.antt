use Rattle.std.proofs.Common.{refl, ap}
use Rattle.line_grammar.specs.Grammar.{Parts, part}
use Rattle.line_grammar.specs.Shapes.{digits}
use Rattle.line_grammar.specs.Sections.{nth}
use Rattle.call_texts.specs.CallParts.{request_parts}
use Rattle.line_grammar.proofs.SectionSteps.{leaves_form}
use Rattle.call_texts.proofs.forms.individual.Goals as goal

pub returns-in_err-ending : goal.returns-in_err-ending
returns-in_err-ending g c = leaves_form _ _ _ _ _ _ _ c.new-line.ensures c.from_residual-in_err-ending.ensures.1 (rw (c.in_ok-to.ensures, c.in_ok-request.ensures, ← c.rest.ensures, c.in_err-ending.ensures) refl)

pub returns : goal.returns
returns g c =
    let request = c.in_ok-request.request in
    let place = λ (p : Parts). nth 7 (part (digits 9 c.in_ok-to.to) (request_parts request.category request.from request.first request.second p)) in
    (_, rw (← c.new-line.ensures, c.in_ok-to.ensures, c.in_ok-request.ensures, ← c.rest.ensures, c.in_ok-ending.ensures.1) refl, ap place c.in_ok-ending.ensures.2)
