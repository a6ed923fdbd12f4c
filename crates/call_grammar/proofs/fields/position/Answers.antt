use Rattle.symbol_reader.specs.declared.letters.Letter.TheVariants.{UpToOr}
use Rattle.symbol_reader.proofs.Steps.{letter_good, alike, next, stop, fail, chosen, not_chosen}
use Rattle.call_grammar.proofs.PositionParts.{position_alike, rest_good, is_99, is_not_99}
use Rattle.call_grammar.proofs.fields.position.Goals as goal

pub returns-in_err-initial : goal.returns-in_err-initial
returns-in_err-initial c = fail c.from_residual.ensures.1 (alike position_alike
    (stop (letter_good (UpToOr 39 99)) (λ initial _ _. rest_good initial) c.in_err-initial.ensures.reads))

pub returns-then-initial-eq-UNKNOWN_POSITION : goal.returns-then-initial-eq-UNKNOWN_POSITION
returns-then-initial-eq-UNKNOWN_POSITION c = alike position_alike
    (next (letter_good (UpToOr 39 99)) c.in_ok-initial.ensures.reads
    (chosen (is_99 c.in_ok-initial.initial c.if-initial-eq-UNKNOWN_POSITION.true) c.unknown_rest.ensures))

pub returns-else-initial-eq-UNKNOWN_POSITION : goal.returns-else-initial-eq-UNKNOWN_POSITION
returns-else-initial-eq-UNKNOWN_POSITION c = alike position_alike
    (next (letter_good (UpToOr 39 99)) c.in_ok-initial.ensures.reads
    (not_chosen (is_not_99 c.in_ok-initial.initial c.if-initial-eq-UNKNOWN_POSITION.false) c.known_rest.ensures))
