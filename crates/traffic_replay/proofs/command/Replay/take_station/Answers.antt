use Rattle.std.proofs.Common.{refl}
use Rattle.std.proofs.lemmas.Result.{err_from_is_err_and}
use Rattle.traffic_lines.specs.Lines.{line_of_station}
use Rattle.traffic_replay.specs.declared.stages.Stage.TheVariants as stage
use Rattle.traffic_replay.proofs.Bodies.{takes_own, fault_here}
use Rattle.traffic_replay.proofs.Told.{keeps_station}
use Rattle.traffic_replay.proofs.command.Replay.take_station.Goals as goal

pub returns-clause-ok : goal.returns-clause-ok
returns-clause-ok c = λ said text keeps.
    let old = c.args.self.now in
    takes_own old _ stage.Station said c.args.line.now text text (line_of_station c.in_ok-named.named) c.requires.stage keeps c.in_ok-named.ensures
    (keeps_station old _ c.in_ok-named.named said text c.requires.stage keeps refl)

pub returns-in_err-named-clause-err : goal.returns-in_err-named-clause-err
returns-in_err-named-clause-err c =
    let p = err_from_is_err_and c.from_residual.result c.from_residual.ensures.1 in
    rw (p.1, p.2) (λ said text keeps. fault_here c.args.self.now stage.Station said text c.args.line.now c.in_err-named.field-0.0 c.requires.stage keeps c.requires.own c.in_err-named.ensures)
