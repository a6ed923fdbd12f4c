use Rattle.std.proofs.Common.{◌≡◌, ℕ, codes, List, Err}
use Rattle.line_grammar.specs.Tokens.{free_number}
use Rattle.line_grammar.specs.Grammar.{Grammar, word, field}
use Rattle.line_grammar.specs.inside.Reading.{read}
use Rattle.line_grammar.proofs.Chains.{passed, word_missed, word_on, token_missed, token_on}
use Rattle.input_lines.specs.ReceiverLine.{pair}
use Rattle.input_lines.proofs.Pairs.{behind_place, pair_read}
use Rattle.input_lines.proofs.evidence.pair.Goals as goal

abbrev IsMissed : List ℕ → ℕ → Type 0
IsMissed bytes left = (rest : Grammar) → read (word (codes " ") (pair rest)) bytes ≡ Err left

pub returns-in_err-rest-clause-left : goal.returns-in_err-rest-clause-left
returns-in_err-rest-clause-left c =
    passed (IsMissed c.args.bytes.now) c.from_residual.result _ c.from_residual.ensures.1 (λ rest. word_missed (codes " ") (pair rest) _ _ c.in_err-rest.ensures.left)

pub returns-in_err-place-clause-left : goal.returns-in_err-place-clause-left
returns-in_err-place-clause-left c =
    passed (IsMissed c.args.bytes.now) c.from_residual-in_err-place.result _ c.from_residual-in_err-place.ensures.1
    (λ rest. word_on (codes " ") (pair rest) _ _ _ c.in_ok-rest.ensures.rest (token_missed (free_number 0 63) _ _ _ c.in_err-place.ensures.left))

pub returns-in_err-rest-2-clause-left : goal.returns-in_err-rest-2-clause-left
returns-in_err-rest-2-clause-left c =
    let place = c.in_ok-place.ensures.number in
    passed (IsMissed c.args.bytes.now) c.from_residual-in_err-rest-2.result _ c.from_residual-in_err-rest-2.ensures.1
    (λ rest. behind_place _ _ place.0 _ _ c.in_ok-rest.ensures.rest place.1 rest (word_missed (codes ":") _ _ _ c.in_err-rest-2.ensures.left))

pub returns-in_err-symbol-clause-left : goal.returns-in_err-symbol-clause-left
returns-in_err-symbol-clause-left c =
    let place = c.in_ok-place.ensures.number in
    passed (IsMissed c.args.bytes.now) c.from_residual-in_err-symbol.result _ c.from_residual-in_err-symbol.ensures.1
    (λ rest. behind_place _ _ place.0 _ _ c.in_ok-rest.ensures.rest place.1 rest
    (word_on (codes ":") (field (free_number 0 127) rest) _ _ _ c.in_ok-rest-2.ensures.rest (token_missed (free_number 0 127) rest _ _ c.in_err-symbol.ensures.left)))

pub returns-clause-pair : goal.returns-clause-pair
returns-clause-pair c =
    let place = c.in_ok-place.ensures.number in
    let symbol = c.in_ok-symbol.ensures.number in
    pair_read _ _ place.0 _ _ symbol.0 _ _ _ c.in_ok-rest.ensures.rest place.1 place.2 c.in_ok-rest-2.ensures.rest symbol.1 symbol.2

pub returns-clause-goes_on : goal.returns-clause-goes_on
returns-clause-goes_on c =
    let place = c.in_ok-place.ensures.number in
    let symbol = c.in_ok-symbol.ensures.number in
    λ rest left e.
    behind_place _ _ place.0 _ _ c.in_ok-rest.ensures.rest place.1 rest
    (word_on (codes ":") (field (free_number 0 127) rest) _ _ _ c.in_ok-rest-2.ensures.rest (token_on (free_number 0 127) rest _ symbol.0 _ _ symbol.1 e))
