use Rattle.std.proofs.Common.{IfErr, sym, subst}
use Rattle.station_exchange.specs.declared.stages.Stage.{Stage}
use Rattle.station_exchange.specs.inside.Progress.{IsRefusedAt}
use Rattle.station_exchange.proofs.command.Exchanging.take_said.Goals as goal

pub returns-in-Coast-clause-err : goal.returns-in-Coast-clause-err
returns-in-Coast-clause-err c = subst (λ (s : Stage). IfErr c.name_coast.result (λ refusal. IsRefusedAt s c.args.line.now refusal)) (sym c.in-Coast.is) c.name_coast.ensures.err

pub returns-in-Base-clause-err : goal.returns-in-Base-clause-err
returns-in-Base-clause-err c = subst (λ (s : Stage). IfErr c.name_base.result (λ refusal. IsRefusedAt s c.args.line.now refusal)) (sym c.in-Base.is) c.name_base.ensures.err

pub returns-in-Events-clause-err : goal.returns-in-Events-clause-err
returns-in-Events-clause-err c = subst (λ (s : Stage). IfErr c.take.result (λ refusal. IsRefusedAt s c.args.line.now refusal)) (sym c.in-Events.is) c.take.ensures.err
