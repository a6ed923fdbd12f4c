use Rattle.std.proofs.Common.{◌++◌}
use Rattle.call_grammar.specs.Spelling.{spell}
use Rattle.time_diversity.specs.OnAir.{on_air}
use Rattle.phasing.specs.Sent.{sent}
use Rattle.slot_join.proofs.WholeCalls.{Laws, arrives, arrives_alone, ends_alone}
use Rattle.slot_join.proofs.laws.transmissions_are_answered.Goals as goal

laws_of : goal.After-whole_calls_are_found → Laws
laws_of c = record {
  lead = c.whole_calls_are_found.ensures.lead;
  slots = c.whole_calls_are_found.ensures.slots;
  length = c.whole_calls_are_found.ensures.length;
}

pub returns-clause-alone : goal.returns-clause-alone
returns-clause-alone c = λ call long answer lawful is.
    c.intact_call_is_reported.ensures.alone call (sent (on_air (spell call)) long) answer lawful (arrives_alone (laws_of c) call long) (ends_alone (laws_of c) call long) is

pub returns-clause-expanded : goal.returns-clause-expanded
returns-clause-expanded c = λ call tail x long answer lawful behind is.
    c.intact_call_is_reported.ensures.expanded call tail x (sent (on_air (spell call ++ tail)) long) answer lawful behind (arrives (laws_of c) call tail long) is
