use Rattle.std.proofs.Common.{◌≡◌, ◌⊎◌, []}
use Rattle.call_grammar.specs.Walk.{IsOpen}
use Rattle.call_tests.proofs.grammar.walk_through.Given as goal

abbrev pub invariant-loop-taken : goal.invariant-loop-taken
invariant-loop-taken l = (l.walk ≡ []) ⊎ IsOpen l.walk
