use Rattle.station_exchange.specs.declared.stages.Stage.TheVariants as stage
use Rattle.station_exchange.proofs.Further.{names_coast, refused_at}
use Rattle.station_exchange.proofs.stages.behind_coast.Goals as goal

pub returns-clause-ok : goal.returns-clause-ok
returns-clause-ok c = names_coast c.args.ship _ _ c.args.line.now c.in_ok-coast.ensures

pub returns-in_err-coast-clause-err : goal.returns-in_err-coast-clause-err
returns-in_err-coast-clause-err c = refused_at (stage.Coast c.args.ship) c.args.line.now _ _ c.from_residual.ensures.1 c.requires c.in_err-coast.ensures
