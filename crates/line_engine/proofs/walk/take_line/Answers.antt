use Rattle.std.proofs.Common.{arith}
use Rattle.line_engine.proofs.Faultless.{takes_line}
use Rattle.line_engine.proofs.walk.take_line.Goals as goal

pub returns-in-Ok-clause-taken : goal.returns-in-Ok-clause-taken
returns-in-Ok-clause-taken g c = λ lines text stands e.
    let within = c.in_ok-check_limits.ensures.within in
    takes_line (omega arith) within.1 (c.in-Ok.ensures.taken lines text stands) (c.in-Ok.ensures.stands lines text stands)
