use Rattle.std.proofs.Common.{◌++◌, refl}
use Rattle.std.proofs.lemmas.Bool.{false≢true}
use Rattle.station_exchange.proofs.Further.{takes_nothing}
use Rattle.station_exchange.proofs.command.Exchanging.take_line.Goals as goal

pub returns-then-says_nothing-clause-ok : goal.returns-then-says_nothing-clause-ok
returns-then-says_nothing-clause-ok c = λ said text keeps.
    takes_nothing c.args.self.now.stage said c.args.line.now (text ++ c.args.out.now.items) (c.if-says_nothing.ensures.0 refl) keeps

pub take_said-requires-clause-own : goal.take_said-requires-clause-own
take_said-requires-clause-own c = λ at n one there. c.exchange_columns.ensures at c.args.line.now n (λ is. absurd (false≢true (c.if-says_nothing.ensures.1 is))) one there
