use Rattle.std.proofs.Common.{◌≡◌, ℕ, Err}
use Rattle.line_grammar.specs.inside.Reading.{read}
use Rattle.line_grammar.proofs.Chains.{passed}
use Rattle.input_lines.specs.ReceiverLine.{behind_blank, grouped, signs}
use Rattle.input_lines.proofs.Bodies.{signs_behind_blank}
use Rattle.input_lines.proofs.WholeLines.{reception_of}
use Rattle.input_lines.proofs.receptions.group_and_signs.Goals as goal

pub returns-in_err-group-clause-left : goal.returns-in_err-group-clause-left
returns-in_err-group-clause-left c =
    passed (λ (left : ℕ). read (grouped (behind_blank signs)) c.args.bytes.now ≡ Err left) c.from_residual.result _ c.from_residual.ensures.1
    (c.in_err-group.ensures.left signs signs_behind_blank)

pub returns-in_err-signs-clause-left : goal.returns-in_err-signs-clause-left
returns-in_err-signs-clause-left c =
    passed (λ (left : ℕ). read (grouped (behind_blank signs)) c.args.bytes.now ≡ Err left) c.from_residual-in_err-signs.result _ c.from_residual-in_err-signs.ensures.1
    (c.in_ok-group.ensures.goes_on signs _ signs_behind_blank c.in_err-signs.ensures.left)

pub returns-clause-line : goal.returns-clause-line
returns-clause-line c = reception_of _ _ _ _ c.in_ok-group.ensures.named c.in_ok-signs.ensures.signs.1
