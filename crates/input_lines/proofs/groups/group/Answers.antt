use Rattle.std.proofs.Common.{◌≡◌, ℕ, false, Err, refl}
use Rattle.line_grammar.specs.Grammar.{Grammar}
use Rattle.line_grammar.specs.inside.Reading.{read}
use Rattle.input_lines.specs.ReceiverLine.{behind_blank, grouped}
use Rattle.input_lines.specs.inside.Reading.{IsBehindBlank}
use Rattle.input_lines.proofs.NamedGroups.{no_number, group_named, no_rest, no_name}
use Rattle.line_grammar.proofs.Chains.{passed}
use Rattle.input_lines.proofs.groups.group.Goals as goal

pub returns-in_err-number-in-Ok-clause-left : goal.returns-in_err-number-in-Ok-clause-left
returns-in_err-number-in-Ok-clause-left c = passed (λ (left : ℕ). (rest : Grammar) → IsBehindBlank rest → read (grouped (behind_blank rest)) c.args.bytes.now ≡ Err left) c.from_residual.result _ c.from_residual.ensures.1
    (no_number _ _ _ c.in-Ok.ensures.rest c.in_err-number-in-Ok.ensures.left)

pub returns-in_ok-number-in-Ok-clause-named : goal.returns-in_ok-number-in-Ok-clause-named
returns-in_ok-number-in-Ok-clause-named c =
    let number = c.in_ok-number-in-Ok.ensures.number in
    group_named _ _ number.0 _ _ c.in-Ok.ensures.rest number.1 number.2

pub returns-in_ok-number-in-Ok-clause-goes_on : goal.returns-in_ok-number-in-Ok-clause-goes_on
returns-in_ok-number-in-Ok-clause-goes_on c =
    let number = c.in_ok-number-in-Ok.ensures.number in
    no_rest _ _ number.0 _ _ c.in-Ok.ensures.rest number.1 number.2

pub returns-in-Err-clause-named : goal.returns-in-Err-clause-named
returns-in-Err-clause-named c = (false, (refl, refl))

pub returns-in-Err-clause-goes_on : goal.returns-in-Err-clause-goes_on
returns-in-Err-clause-goes_on c = no_name _ _ c.in-Err.ensures.left
