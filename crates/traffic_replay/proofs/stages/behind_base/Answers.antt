use Rattle.std.proofs.Common.{refl, sym, subst}
use Rattle.traffic_lines.specs.declared.lines.StationLine.{StationLine}
use Rattle.traffic_replay.specs.declared.stages.Stage.TheVariants as stage
use Rattle.traffic_replay.specs.inside.Progress.{IsBehindBase}
use Rattle.traffic_replay.proofs.Told.{same_identities}
use Rattle.traffic_replay.proofs.stages.behind_base.Goals as goal

pub returns-in-Ship : goal.returns-in-Ship
returns-in-Ship c = subst (λ (n : StationLine). IsBehindBase n c.args.base (stage.Groups c.none.result)) (sym c.in-Ship.is)
    (c.none.result, refl, same_identities c.none.ensures.own c.none.ensures.none, c.none.ensures.base)
