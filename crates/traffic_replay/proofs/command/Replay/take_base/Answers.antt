use Rattle.std.proofs.Common.{refl}
use Rattle.std.proofs.lemmas.Result.{err_from_is_err_and}
use Rattle.traffic_lines.specs.declared.lines.TrafficLine.TheVariants.{Base}
use Rattle.traffic_replay.specs.declared.stages.Stage.TheVariants as stage
use Rattle.traffic_replay.proofs.Bodies.{takes_own, fault_here}
use Rattle.traffic_replay.proofs.Told.{keeps_base}
use Rattle.traffic_replay.proofs.command.Replay.take_base.Goals as goal

pub returns-clause-ok : goal.returns-clause-ok
returns-clause-ok c = λ said text keeps.
    let old = c.args.self.now in
    takes_own old _ (stage.Base c.args.named) said c.args.line.now text text (Base c.in_ok-base.base) c.requires.stage keeps c.in_ok-base.ensures
    (keeps_base old _ c.args.named c.in_ok-base.base c.behind_base.result said text c.requires.stage c.in_ok-base.ensures.1.0 keeps c.behind_base.ensures refl)

pub returns-in_err-base-clause-err : goal.returns-in_err-base-clause-err
returns-in_err-base-clause-err c =
    let p = err_from_is_err_and c.from_residual.result c.from_residual.ensures.1 in
    rw (p.1, p.2) (λ said text keeps. fault_here c.args.self.now (stage.Base c.args.named) said text c.args.line.now c.in_err-base.field-0.0 c.requires.stage keeps c.requires.own c.in_err-base.ensures)
