use Rattle.std.proofs.Common.{◌++◌, refl, subst}
use Rattle.traffic_lines.specs.Lines.{event_with}
use Rattle.traffic_lines.specs.declared.lines.StationOwn.TheVariants as own
use Rattle.traffic_replay.specs.declared.stages.Stage.{Stage}
use Rattle.traffic_replay.specs.Said.{base_of}
use Rattle.traffic_replay.specs.Happenings.{taking_ship}
use Rattle.traffic_replay.specs.inside.Progress.{IsReadyAt, KeepsStation}
use Rattle.traffic_replay.proofs.Happened.{ship_takes}
use Rattle.traffic_replay.proofs.Told.{keeps_at_ship}
use Rattle.traffic_replay.proofs.command.Replay.take_at_ship.Goals as goal

pub returns : goal.returns
returns g c = λ said text begun.
    let old = c.args.self.now in
    let out = c.args.out.now.items in
    let did = c.in_ok-self.ensures in
    keeps_at_ship old _ c.in-Ship.base c.in-Ship.ship c.happen.new.station said text out c.happen.new.out.items c.in_ok-self.field-0 c.args.at (event_with own.Ship c.args.what.now)
    (subst IsReadyAt c.in-Ship.is c.requires.ready.stage) (subst (λ (s : Stage). KeepsStation s said (text ++ out) old.is_well) c.in-Ship.is begun.0)
    (λ who h based stands. did.happens said taking_ship own.Ship who h (ship_takes c.in-Ship.base (base_of said) based) begun.1 stands)
    (did.kept said own.Ship begun.1) (did.few begun.2) refl refl
