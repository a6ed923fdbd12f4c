use Rattle.std.proofs.Common.{◌≡◌, ◌⊎◌, []}
use Rattle.call_grammar.specs.Walk.{IsOpen}
use Rattle.call_tests.proofs.grammar.is_end_wanted_once.Given as goal

abbrev pub invariant-loop-symbol : goal.invariant-loop-symbol
invariant-loop-symbol l = (l.walk ≡ []) ⊎ IsOpen l.walk
