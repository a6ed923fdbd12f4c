use Rattle.ship_station.proofs.Sent.{sent_so}
use Rattle.ship_station.proofs.laws.alerts_are_sent_as_attempts.Goals as goal

pub returns : goal.returns
returns c = sent_so
