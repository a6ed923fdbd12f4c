use Rattle.std.proofs.Common.{ℕ, codes, refl, sym, ◌∙◌, ap}
use Rattle.line_grammar.specs.Grammar.{part}
use Rattle.line_grammar.specs.Shapes.{digits}
use Rattle.line_grammar.specs.inside.Reading.{named, read}
use Rattle.call_texts.specs.CallGrammar as grammar
use Rattle.line_grammar.specs.Sections.{labelled}
use Rattle.call_texts.specs.CallParts.{casualty_parts}
use Rattle.line_grammar.proofs.SectionSteps.{both, leaves}
use Rattle.call_texts.proofs.sections.Distress.read.Goals as goal

pub returns-in_err-mmsi : goal.returns-in_err-mmsi
returns-in_err-mmsi c = leaves _ _ _ _ _ _ c.from_residual-in_err-mmsi.ensures.1 (λ rest. rw (c.in_ok-from.ensures, c.in_err-mmsi.ensures) refl)

pub returns-in_err-casualty : goal.returns-in_err-casualty
returns-in_err-casualty c = leaves _ _ _ _ _ _ c.from_residual-in_err-casualty.ensures.1 (λ rest. rw (c.in_ok-from.ensures, c.in_ok-mmsi.ensures, c.in_err-casualty.ensures.reads) refl)

pub returns : goal.returns
returns c rest =
    let ship = labelled (codes " casualty=") grammar.identity in
    let casualty = casualty_parts c.in_ok-casualty.casualty in
    both grammar.from (λ rest. ship (grammar.casualty rest)) (part (digits 9 c.in_ok-from.from)) (λ p. part (digits 9 c.in_ok-mmsi.mmsi) (casualty p)) _ _ _ c.in_ok-from.ensures
    (both ship grammar.casualty (part (digits 9 c.in_ok-mmsi.mmsi)) casualty _ _ _ c.in_ok-mmsi.ensures c.in_ok-casualty.ensures.reads) rest
    ∙ ap (λ (n : ℕ). named (λ p. part (digits 9 c.in_ok-from.from) (part (digits 9 n) (casualty p))) (read rest c.casualty.new.line)) (sym c.in_ok-casualty.ensures.mmsi)
