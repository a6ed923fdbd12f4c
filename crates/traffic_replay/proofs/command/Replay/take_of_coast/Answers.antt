use Rattle.std.proofs.Common.{◌++◌, refl, subst}
use Rattle.traffic_lines.specs.Lines.{event_with, line_of_coast}
use Rattle.traffic_lines.specs.Readings.{ReadsAt}
use Rattle.traffic_lines.specs.declared.lines.Point.TheVariants as point
use Rattle.traffic_lines.specs.declared.lines.StationOwn.TheVariants as own
use Rattle.traffic_replay.specs.declared.stages.Stage.TheVariants as stage
use Rattle.traffic_replay.specs.Said.{base_of}
use Rattle.traffic_replay.specs.Happenings.{taking_coast}
use Rattle.traffic_replay.proofs.Bodies.{takes_own, kept_at}
use Rattle.traffic_replay.proofs.Happened.{coast_takes}
use Rattle.traffic_replay.proofs.Told.{keeps_at_coast}
use Rattle.traffic_replay.proofs.command.Replay.take_of_coast.Goals as goal

pub returns-clause-ok : goal.returns-clause-ok
returns-clause-ok g c = λ said text keeps.
    let old = c.args.self.now in
    let out = c.args.out.now.items in
    let at = stage.Coast c.in-Coast.coast in
    let says = c.in-Ok.says in
    let line = subst (ReadsAt point.Coast line_of_coast c.args.line.now) c.in-Ok.is c.read_coast_line-read.ensures in
    let did = c.in_ok-self.ensures in
    takes_own old _ at said c.args.line.now (text ++ out) (text ++ c.happen.new.out.items) (line_of_coast says) c.in-Coast.is keeps line
    (keeps_at_coast old _ c.in-Coast.coast c.happen.new.station said text out c.happen.new.out.items c.in_ok-self.field-0 says.0 (event_with own.Coast says.1)
    (kept_at old at said (text ++ out) c.in-Coast.is keeps) (λ who h stands. did.happens said taking_coast own.Coast who h (coast_takes (base_of said)) keeps.heard stands)
    (did.kept said own.Coast keeps.heard) (did.few keeps.few) refl refl)
