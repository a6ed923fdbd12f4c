use Rattle.station_exchange.specs.declared.stages.Stage.TheVariants as stage
use Rattle.station_exchange.proofs.Further.{names_ship, refused_at}
use Rattle.station_exchange.proofs.stages.behind_ship.Goals as goal

pub returns-clause-ok : goal.returns-clause-ok
returns-clause-ok c = names_ship c.in_ok-ship.ship c.args.line.now c.in_ok-ship.ensures

pub returns-in_err-ship-clause-err : goal.returns-in_err-ship-clause-err
returns-in_err-ship-clause-err c = refused_at stage.Ship c.args.line.now _ _ c.from_residual.ensures.1 c.requires c.in_err-ship.ensures
