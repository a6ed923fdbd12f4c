use Rattle.std.proofs.Common.{ℕ, Option, Some, None}
use Rattle.symbol_reader.specs.declared.letters.Letter.TheVariants.{Exactly, UpTo, UpToOr}
use Rattle.symbol_reader.proofs.Laws.{only_good}
use Rattle.symbol_reader.proofs.Steps.{letter_good, alike, next, stop, fail, chosen, not_chosen}
use Rattle.dsc_symbols.specs.declared.messages.TheConstants.{UNKNOWN_TIME}
use Rattle.call_grammar.proofs.TimeParts.{time_alike, rest_good, unknown_hour, known_hour}
use Rattle.call_grammar.proofs.fields.time.Goals as goal

pub returns-in_err-hour : goal.returns-in_err-hour
returns-in_err-hour c = fail c.from_residual.ensures.1 (alike time_alike
    (stop (letter_good (UpToOr 23 UNKNOWN_TIME)) (λ hour _ _. rest_good hour) c.in_err-hour.ensures.reads))

pub returns-in_err-symbol : goal.returns-in_err-symbol
returns-in_err-symbol c = fail c.from_residual-in_err-symbol.ensures.1 (alike time_alike
    (next (letter_good (UpToOr 23 UNKNOWN_TIME)) c.in_ok-hour.ensures.reads
    (chosen (unknown_hour c.in_ok-hour.hour c.if-hour-eq-UNKNOWN_TIME.true)
    (stop (letter_good (Exactly UNKNOWN_TIME)) (λ _ _ _. only_good {V = Option (ℕ × ℕ)} None) c.in_err-symbol.ensures.reads))))

pub returns-in_err-minute : goal.returns-in_err-minute
returns-in_err-minute c = fail c.from_residual-in_err-minute.ensures.1 (alike time_alike
    (next (letter_good (UpToOr 23 UNKNOWN_TIME)) c.in_ok-hour.ensures.reads
    (not_chosen (known_hour c.in_ok-hour.hour c.if-hour-eq-UNKNOWN_TIME.false)
    (stop (letter_good (UpTo 59)) (λ minute _ _. only_good (let t : Option (ℕ × ℕ) = Some (c.in_ok-hour.hour, minute) in t)) c.in_err-minute.ensures.reads))))
