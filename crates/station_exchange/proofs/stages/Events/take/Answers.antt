use Rattle.std.proofs.Common.{refl}
use Rattle.station_exchange.proofs.Further.{takes_event}
use Rattle.station_exchange.proofs.stages.Events.take.Goals as goal

pub returns-in_ok-self-in-Ok-clause-ok : goal.returns-in_ok-self-in-Ok-clause-ok
returns-in_ok-self-in-Ok-clause-ok c = λ said text keeps.
    takes_event c.args.self.now _ c.in-Ok.entry c.args.line.now text c.args.out.now.items c.happen.new.out.items said c.in_ok-self-in-Ok.field-0 c.in-Ok.ensures refl refl
    c.in_ok-self-in-Ok.ensures keeps
