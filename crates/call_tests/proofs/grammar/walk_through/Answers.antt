use Rattle.call_tests.proofs.grammar.walk_through.Goals as goal

pub take-requires-clause-open : goal.take-requires-clause-open
take-requires-clause-open c = c.open_is_not_done.ensures c.loop-taken.walk c.loop-taken.invariant
