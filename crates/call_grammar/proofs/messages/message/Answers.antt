use Rattle.std.proofs.lemmas.Bool.{ne_eqb, eq-eqb}
use Rattle.symbol_reader.specs.declared.letters.Letter.TheVariants as letter
use Rattle.symbol_reader.proofs.Laws.{only_good}
use Rattle.symbol_reader.proofs.Steps.{letter_good, alike, next, stop, fail, chosen, not_chosen, only_read}
use Rattle.dsc_symbols.specs.declared.messages.TheConstants.{POSITION_FOLLOWS}
use Rattle.call_grammar.proofs.PositionParts.{position_good}
use Rattle.call_grammar.proofs.FieldParts.{field_good, field_rest_good}
use Rattle.call_grammar.proofs.MessageParts.{message_alike, message_rest_good, at_good, second_field_good}
use Rattle.call_grammar.proofs.messages.message.Goals as goal

pub returns-in_err-initial : goal.returns-in_err-initial
returns-in_err-initial c = fail c.from_residual.ensures.1 (alike message_alike
    (stop (letter_good letter.Message) (λ initial _ _. message_rest_good initial) c.in_err-initial.ensures.reads))

pub returns-in_err-position : goal.returns-in_err-position
returns-in_err-position c = fail c.from_residual-in_err-position.ensures.1 (alike message_alike
    (next (letter_good letter.Message) c.in_ok-initial.ensures.reads
    (chosen (eq-eqb _ POSITION_FOLLOWS c.if-initial-eq-POSITION_FOLLOWS.true)
    (stop position_good (λ p _ _. at_good p) c.in_err-position.ensures))))

pub returns-then-initial-eq-POSITION_FOLLOWS : goal.returns-then-initial-eq-POSITION_FOLLOWS
returns-then-initial-eq-POSITION_FOLLOWS c = alike message_alike
    (next (letter_good letter.Message) c.in_ok-initial.ensures.reads
    (chosen (eq-eqb _ POSITION_FOLLOWS c.if-initial-eq-POSITION_FOLLOWS.true)
    (next position_good c.in_ok-position.ensures (only_read _ _))))

pub returns-in_err-f1 : goal.returns-in_err-f1
returns-in_err-f1 c = fail c.from_residual-in_err-f1.ensures.1 (alike message_alike
    (next (letter_good letter.Message) c.in_ok-initial.ensures.reads
    (not_chosen (ne_eqb _ POSITION_FOLLOWS c.if-initial-eq-POSITION_FOLLOWS.false)
    (stop (field_rest_good c.in_ok-initial.initial) (λ f _ _. second_field_good f) c.in_err-f1.ensures))))

pub returns-in_err-f2 : goal.returns-in_err-f2
returns-in_err-f2 c = fail c.from_residual-in_err-f2.ensures.1 (alike message_alike
    (next (letter_good letter.Message) c.in_ok-initial.ensures.reads
    (not_chosen (ne_eqb _ POSITION_FOLLOWS c.if-initial-eq-POSITION_FOLLOWS.false)
    (next (field_rest_good c.in_ok-initial.initial) c.in_ok-f1.ensures
    (stop field_good (λ _ _ _. only_good _) c.in_err-f2.ensures)))))

pub returns : goal.returns
returns c = alike message_alike
    (next (letter_good letter.Message) c.in_ok-initial.ensures.reads
    (not_chosen (ne_eqb _ POSITION_FOLLOWS c.if-initial-eq-POSITION_FOLLOWS.false)
    (next (field_rest_good c.in_ok-initial.initial) c.in_ok-f1.ensures
    (next field_good c.in_ok-f2.ensures (only_read _ _)))))
