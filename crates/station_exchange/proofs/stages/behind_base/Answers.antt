use Rattle.std.proofs.Common.{true, refl}
use Rattle.station_exchange.specs.declared.stages.Stage.TheVariants as stage
use Rattle.station_exchange.proofs.Further.{names_base, refused_at}
use Rattle.station_exchange.proofs.stages.behind_base.Goals as goal

pub returns-clause-ok : goal.returns-clause-ok
returns-clause-ok c =
    names_base c.args.ship c.args.coast c.args.band (record { base = c.in_ok-base.base; world = c.new-world.result; is_well = true }) c.args.line.now c.in_ok-base.ensures c.in_ok-base.ensures.1.0 refl c.new-world.ensures

pub returns-in_err-base-clause-err : goal.returns-in_err-base-clause-err
returns-in_err-base-clause-err c = refused_at (stage.Base c.args.ship c.args.coast c.args.band) c.args.line.now _ _ c.from_residual.ensures.1 c.requires c.in_err-base.ensures
