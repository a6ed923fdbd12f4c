use Rattle.std.proofs.Common.{◌++◌}
use Rattle.call_grammar.specs.Spelling.{format_of, spell}
use Rattle.time_diversity.specs.OnAir.{on_air}
use Rattle.slot_join.proofs.LateCalls.{format_listed, call_start}
use Rattle.slot_join.proofs.laws.late_calls_are_found.Goals as goal

pub returns-clause-lead : goal.returns-clause-lead
returns-clause-lead c = λ call tail reception long lead start.
    c.late_starts_are_found.ensures.lead reception (on_air (spell call ++ tail)) long lead (format_of call) (format_listed call) (call_start call tail) start

pub returns-clause-origin : goal.returns-clause-origin
returns-clause-origin c = λ call tail reception long lead start.
    c.late_starts_are_found.ensures.origin reception (on_air (spell call ++ tail)) long lead (format_of call) (format_listed call) (call_start call tail) start
