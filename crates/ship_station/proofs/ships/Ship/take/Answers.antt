use Rattle.std.proofs.Common.{sym, subst}
use Rattle.traffic_rules.specs.Rules.{continued}
use Rattle.ship_station.specs.declared.events.ShipWhat.{ShipWhat}
use Rattle.ship_station.specs.Events.{IsShipWhat}
use Rattle.ship_station.specs.ShipRules.{ship_rules}
use Rattle.ship_station.specs.StandsFor.{StandsFor}
use Rattle.traffic_rules.proofs.PublicLaws.{not_before}
use Rattle.ship_station.proofs.ships.Ship.take.Goals as goal

pub returns-in-Alert-clause-goes_on : goal.returns-in-Alert-clause-goes_on
returns-in-Alert-clause-goes_on c who h stands =
    let late = not_before c.args.self.now.last h c.args.at stands.1.last c.in_default.ensures in
    let event = subst IsShipWhat c.in-Alert.is c.lawful.ensures in
    subst (λ (what : ShipWhat). StandsFor c.alert.new.self who (continued (ship_rules who) h c.args.at what)) (sym c.in-Alert.is)
    (c.alert.ensures.goes_on who h stands late event)
