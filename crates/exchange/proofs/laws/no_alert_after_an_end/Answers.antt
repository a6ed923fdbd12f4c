use Rattle.exchange.proofs.Silence.{silent_after_end}
use Rattle.exchange.proofs.laws.no_alert_after_an_end.Goals as goal

pub returns : goal.returns
returns c = silent_after_end c.no_alert_after_an_end.ensures
