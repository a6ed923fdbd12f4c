use Rattle.std.proofs.Common.{subst}
use Rattle.traffic_rules.specs.Rules.{Legal}
use Rattle.ship_station.specs.ShipRules.{ship_rules}
use Rattle.traffic_replay.specs.Said.{identities_of}
use Rattle.traffic_replay.proofs.laws.alerts_end_by_hand_or_acknowledgement.Goals as goal

pub returns : goal.returns
returns c = λ said lines happened later earlier ended are so is.
    c.alerts_end_by_hand_or_acknowledgement.ensures (identities_of said) later earlier ended
    (subst (Legal (ship_rules (identities_of said))) is (c.histories_are_legal.ensures.ship said lines happened are so))
