use Rattle.call_tests.proofs.grammar.is_end_wanted_once.Goals as goal

pub take-requires-clause-open : goal.take-requires-clause-open
take-requires-clause-open c = c.open_is_not_done.ensures c.loop-symbol.walk c.loop-symbol.invariant
