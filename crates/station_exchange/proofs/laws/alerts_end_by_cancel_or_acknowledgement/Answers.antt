use Rattle.std.proofs.Common.{subst}
use Rattle.exchange.specs.WorldRules.{IsLegal}
use Rattle.station_exchange.specs.Said.{parties_of}
use Rattle.station_exchange.proofs.laws.alerts_end_by_cancel_or_acknowledgement.Goals as goal

pub returns : goal.returns
returns c = λ said lines later earlier ended are is.
    c.alerts_end_by_cancel_or_acknowledgement.ensures (parties_of said) later earlier ended (subst (IsLegal (parties_of said)) is (c.histories_are_legal.ensures said lines are))
