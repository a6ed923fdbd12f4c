use Rattle.std.proofs.Common.{sym, subst}
use Rattle.exchange.specs.WorldRules.{IsFromOutside}
use Rattle.station_exchange.proofs.Happened.{outside, end_at_ship}
use Rattle.station_exchange.proofs.steps.happen.Goals as goal

pub step-requires-clause-outside : goal.step-requires-clause-outside
step-requires-clause-outside c = subst IsFromOutside (sym c.event_of-event.ensures) (outside c.args.base c.args.entry.now)

pub step-requires-clause-end : goal.step-requires-clause-end
step-requires-clause-end c = end_at_ship c.args.base c.in-AtShip.at c.in-AtShip.what c.args.entry.now c.event_of-event.result c.event_of-event.ensures c.in-AtShip.is
