use Rattle.std.proofs.Common.{◌≡◌, ℕ, codes, Err, sym}
use Rattle.std.proofs.lemmas.Bool.{eqb-false}
use Rattle.line_grammar.specs.Tokens.{run}
use Rattle.line_grammar.specs.Grammar.{finish}
use Rattle.line_grammar.specs.inside.Reading.{read}
use Rattle.line_grammar.proofs.Chains.{passed, word_missed, word_on, token_missed, token_on, end_missed}
use Rattle.input_lines.specs.ReceiverLine.{signs}
use Rattle.input_lines.specs.inside.Reading.{blank_and_signs}
use Rattle.input_lines.proofs.Bodies.{checked_signs, run_signs}
use Rattle.input_lines.proofs.receptions.signs.Goals as goal

pub returns-in_err-signs-clause-left : goal.returns-in_err-signs-clause-left
returns-in_err-signs-clause-left c =
    passed (λ (left : ℕ). read blank_and_signs c.args.bytes.now ≡ Err left) c.from_residual.result _ c.from_residual.ensures.1
    (word_missed (codes " ") signs _ _ c.in_err-signs.ensures.left)

pub returns-then-are_signs-clause-signs : goal.returns-then-are_signs-clause-signs
returns-then-are_signs-clause-signs c = checked_signs _ _ c.in_ok-signs.ensures.rest (eqb-false _ 0 (sym c.if-not-is_empty.ensures)) (sym c.if-are_signs.ensures)

pub returns-in_err-signs-2-clause-left : goal.returns-in_err-signs-2-clause-left
returns-in_err-signs-2-clause-left c =
    passed (λ (left : ℕ). read blank_and_signs c.args.bytes.now ≡ Err left) c.from_residual-in_err-signs-2.result _ c.from_residual-in_err-signs-2.ensures.1
    (word_on (codes " ") signs _ _ _ c.in_ok-signs.ensures.rest (token_missed (run (codes "YB-")) finish _ _ c.in_err-signs-2.ensures.left))

pub returns-in_err-end-clause-left : goal.returns-in_err-end-clause-left
returns-in_err-end-clause-left c =
    passed (λ (left : ℕ). read blank_and_signs c.args.bytes.now ≡ Err left) c.from_residual-in_err-end.result _ c.from_residual-in_err-end.ensures.1
    (word_on (codes " ") signs _ _ _ c.in_ok-signs.ensures.rest (token_on (run (codes "YB-")) finish _ _ _ _ c.in_ok-signs-2.ensures.parts (end_missed _ _ c.in_err-end.ensures.left)))

pub returns-clause-signs : goal.returns-clause-signs
returns-clause-signs c = run_signs _ _ _ _ c.in_ok-signs.ensures.rest c.in_ok-signs-2.ensures.parts c.in_ok-end.ensures.end
