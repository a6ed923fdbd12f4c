use Rattle.std.proofs.Common.{◌≡◌, ℕ, List, Ok, Err, subst}
use Rattle.line_grammar.specs.Shapes.{digits, fixed_number}
use Rattle.line_grammar.specs.inside.Reading.{read_shape, read_token}
use Rattle.line_grammar.proofs.Chains.{passed}
use Rattle.traffic_lines.specs.Worlds.{other_identity}
use Rattle.traffic_lines.proofs.others.other_number.Goals as goal

pub returns-in_err-number-clause-left : goal.returns-in_err-number-clause-left
unfolding read_token
returns-in_err-number-clause-left c =
    let missed = subst (λ (r : List (ℕ × ℕ)). read_shape (fixed_number 9 r) c.args.bytes.now ≡ Err c.in_err-number.field-0.0) c.others-ranges.ensures.ranges c.in_err-number.ensures.left in
    passed (λ (left : ℕ). read_token (other_identity c.args.mmsi) c.args.bytes.now ≡ Err left) c.from_residual.result _ c.from_residual.ensures.1 missed

pub returns-clause-value : goal.returns-clause-value
unfolding read_token
returns-clause-value c =
    subst (λ (r : List (ℕ × ℕ)). read_shape (fixed_number 9 r) c.args.bytes.now ≡ Ok (digits 9 c.in_ok-number.number, c.in_ok-number.rest.now)) c.others-ranges.ensures.ranges
    c.in_ok-number.ensures.number.1
