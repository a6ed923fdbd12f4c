use Rattle.std.proofs.Common.{◌∙◌, Ok, refl, ap}
use Rattle.line_grammar.specs.Grammar.{finish, word, Parts}
use Rattle.line_grammar.specs.inside.Reading.{named}
use Rattle.line_grammar.proofs.Rows.{leaves_tail, ends, goes_on}
use Rattle.line_grammar.proofs.SectionSteps.{word_read, word_left}
use Rattle.traffic_lines.proofs.rows.spelled.Goals as goal

pub returns-in_err-rest-clause-text : goal.returns-in_err-rest-clause-text
returns-in_err-rest-clause-text g c = leaves_tail (word c.args.text.now finish) _ c.args.bytes.now c.args.bytes.now _ _ refl c.from_residual.ensures.1 (word_left _ _ _ c.in_err-rest.ensures.left finish)

pub returns-in_err-end-clause-text : goal.returns-in_err-end-clause-text
returns-in_err-end-clause-text g c =
    leaves_tail (word c.args.text.now finish) _ c.args.bytes.now c.args.bytes.now _ _ refl c.from_residual-in_err-end.ensures.1
    (word_read _ _ _ c.in_ok-rest.ensures.rest finish ∙ ap (named (λ (p : Parts). p)) (goes_on _ _ c.in_err-end.ensures.left))

pub returns-clause-text : goal.returns-clause-text
returns-clause-text g c = word_read _ _ _ c.in_ok-rest.ensures.rest finish ∙ ap (named (λ (p : Parts). p)) (ends _ c.in_ok-end.ensures.end)
