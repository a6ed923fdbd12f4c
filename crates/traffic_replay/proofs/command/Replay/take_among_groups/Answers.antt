use Rattle.std.proofs.Common.{◌++◌, ℕ, refl, sym, subst}
use Rattle.traffic_lines.specs.Lines.{event_with, line_of_ship}
use Rattle.traffic_lines.specs.declared.lines.StationOwn.TheVariants as own
use Rattle.traffic_lines.specs.declared.lines.Point.TheVariants as point
use Rattle.traffic_lines.specs.declared.lines.ShipLine.{ShipLine}
use Rattle.traffic_lines.specs.declared.lines.TrafficLine.TheVariants.{Group, Event}
use Rattle.traffic_lines.specs.Lines.{IsTrafficLine}
use Rattle.traffic_replay.specs.declared.stages.Stage.{Stage}
use Rattle.traffic_replay.specs.declared.stages.Stage.TheVariants as stage
use Rattle.traffic_replay.specs.inside.Progress.{KeepsStation}
use Rattle.traffic_replay.proofs.Bodies.{takes_own, kept_at}
use Rattle.traffic_replay.proofs.Told.{ship_begins, keeps_group}
use Rattle.traffic_replay.proofs.command.Replay.take_among_groups.Goals as goal

pub returns-in_ok-name-in-Group-clause-ok : goal.returns-in_ok-name-in-Group-clause-ok
returns-in_ok-name-in-Group-clause-ok g c = λ said text keeps.
    let old = c.args.self.now in
    let all = text ++ c.args.out.now.items in
    let from = c.in-Groups.groups in
    let mmsi = c.in-Group.mmsi in
    let line : IsTrafficLine (point.Groups c.held.result) (Group mmsi) c.args.line.now =
    subst (λ (says : ShipLine). IsTrafficLine (point.Groups c.held.result) (line_of_ship says) c.args.line.now) c.in-Group.is c.in-Ok.ensures in
    let here = subst (λ (n : ℕ). IsTrafficLine (point.Groups n) (Group mmsi) c.args.line.now) c.held.ensures line in
    takes_own old _ (stage.Groups from) said c.args.line.now all all (Group mmsi) c.in-Groups.is keeps here
    (keeps_group old _ from c.name.new.self mmsi said all c.in-Groups.is keeps here.0 c.name.ensures.own c.name.ensures.base c.in_ok-name-in-Group.ensures.named refl)

pub returns-in_ok-take_at_ship-in-Event-clause-ok : goal.returns-in_ok-take_at_ship-in-Event-clause-ok
returns-in_ok-take_at_ship-in-Event-clause-ok g c = λ said text keeps.
    let old = c.args.self.now in
    let all = text ++ c.args.out.now.items in
    let from = c.in-Groups.groups in
    let event = Event c.in-Event.at (event_with own.Ship c.in-Event.what) in
    let line : IsTrafficLine (point.Groups c.held.result) event c.args.line.now =
    subst (λ (says : ShipLine). IsTrafficLine (point.Groups c.held.result) (line_of_ship says) c.args.line.now) c.in-Event.is c.in-Ok.ensures in
    let begins = c.begin.ensures in
    let ship = ship_begins from begins.0 said all old.is_well begins.2 (kept_at old (stage.Groups from) said all c.in-Groups.is keeps) in
    takes_own old _ (stage.Groups from) said c.args.line.now all (text ++ c.take_at_ship.new.out.items) event c.in-Groups.is keeps
    (subst (λ (n : ℕ). IsTrafficLine (point.Groups n) event c.args.line.now) c.held.ensures line)
    (c.in_ok-take_at_ship-in-Event.ensures said text (subst (λ (s : Stage). KeepsStation s said all old.is_well) (sym begins.1) ship, keeps.heard, keeps.few))
