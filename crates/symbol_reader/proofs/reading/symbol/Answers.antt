use Rattle.std.proofs.Common.{◌≡◌, true, false, sym}
use Rattle.symbol_reader.proofs.Steps.{symbol_short, symbol_outside}
use Rattle.symbol_reader.proofs.reading.symbol.Goals as goal

pub returns-in_default-clause-reads : goal.returns-in_default-clause-reads
returns-in_default-clause-reads c = rw (← c.rest.ensures) (symbol_short _ _ (c.in_default.ensures).cases)

pub returns-then-not-allows-clause-reads : goal.returns-then-not-allows-clause-reads
returns-then-not-allows-clause-reads c =
    rw (← c.rest.ensures) (symbol_outside _ _ _ _ (c.in-Some.ensures).cases.0
    (λ h. let yes : true ≡ c.allows.result = sym (c.allows.ensures.1 h) in let no : c.allows.result ≡ false = c.if-not-allows.true in cc))
